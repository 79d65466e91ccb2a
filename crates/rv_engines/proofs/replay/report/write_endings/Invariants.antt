-- the lines so far are written, and the writer has failed no more than before
use Rattle.std.proofs.Common.{◌≡◌, take}
use Rattle.std.specs.Io.KnownBytes.{Appends}
use Rattle.rv_collide.specs.Stored.{setting_of}
use Rattle.rv_collide.specs.Texts.{endings_text}
use Rattle.rv_collide.specs.Verdict.{endings}
use Rattle.rv_engines.proofs.replay.report.write_endings.Given as goal

abbrev pub invariant-loop-n : goal.invariant-loop-n
invariant-loop-n g l =
    record {
      written : Appends (g.O.Output.written l.initial.writer) (g.O.Output.written l.writer) (endings_text (take l.n (endings (setting_of l.run).start l.run.entries)));
      failed : g.O.Output.has_failed l.writer ≡ g.O.Output.has_failed l.initial.writer;
    }
