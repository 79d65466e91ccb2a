-- the lines so far are answered, and the devices have failed no more than before
use Rattle.std.proofs.Common.{◌≡◌}
use Rattle.rv_memory.specs.Buffered as buffer
use Rattle.rv_memory.specs.Flagged as flag
use Rattle.rv_memory.specs.declared.flagged.TheConstants.{INPUT_LIMIT}
use Rattle.rv_debug.proofs.TalkLemmas.{TalkSoFar}
use Rattle.rv_debug.specs.internal.Lines.{rest_of}
use Rattle.rv_debug.proofs.talk.talk.Given as goal

abbrev pub invariant-lines : goal.invariant-lines
invariant-lines g l =
    record {
      so_far : TalkSoFar INPUT_LIMIT l.initial.session l.session (g.C.Read.remaining (flag.device l.initial.commands))
          (rest_of l.lines (g.C.Read.remaining (flag.device l.commands))) l.lines
          (buffer.written g.W.Write.contents l.initial.writer) (buffer.written g.W.Write.contents l.writer);
      reader : flag.has_failed l.commands ≡ flag.has_failed l.initial.commands;
      writer : buffer.has_failed l.writer ≡ buffer.has_failed l.initial.writer;
    }

abbrev pub decreases-lines : goal.decreases-lines
decreases-lines g l = l.lines.left
