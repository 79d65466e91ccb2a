-- the lines so far are written, and the writer has failed no more than before
use Rattle.std.proofs.Common.{◌≡◌, take}
use Rattle.std.specs.Io.KnownBytes.{Appends}
use Rattle.rv_text.specs.Lines.{text_of_lines}
use Rattle.rv_hart.specs.Texts.{hart_lines}
use Rattle.rv_hart.proofs.texts.write_harts.Given as goal

abbrev pub invariant-loop-h : goal.invariant-loop-h
invariant-loop-h g l =
    record {
      written : Appends (g.O.Output.written l.initial.writer) (g.O.Output.written l.writer) (text_of_lines (hart_lines 0 (take l.h l.machine.state.harts)));
      failed : g.O.Output.has_failed l.writer ≡ g.O.Output.has_failed l.initial.writer;
    }
