-- bytes without an LF were taken, and the reader has failed no more than before
use Rattle.std.proofs.Common.{◌≡◌}
use Rattle.rv_memory.specs.Flagged as flag
use Rattle.rv_debug.proofs.LineLemmas.{LineSoFar}
use Rattle.rv_debug.specs.internal.Lines.{rest_of}
use Rattle.rv_debug.proofs.lines.LineSource.next_line.Given as goal

abbrev pub invariant-bytes : goal.invariant-bytes
invariant-bytes g l =
    record {
      so_far : LineSoFar l.initial.self l.self
          (rest_of l.initial.self (g.R.Read.remaining (flag.device l.initial.reader)))
          (rest_of l.self (g.R.Read.remaining (flag.device l.reader))) l.line l.is_empty;
      failed : flag.has_failed l.reader ≡ flag.has_failed l.initial.reader;
    }

abbrev pub decreases-bytes : goal.decreases-bytes
decreases-bytes g l = l.self.left
