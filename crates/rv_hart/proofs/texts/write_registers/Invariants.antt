-- the registers so far are written, and the writer has failed no more than before
use Rattle.std.proofs.Common.{◌≡◌}
use Rattle.std.specs.Io.KnownBytes.{Appends}
use Rattle.std.specs.List.{flat_map, range_with_len}
use Rattle.rv_hart.specs.SomeHart.{SomeHart}
use Rattle.rv_hart.specs.Texts.{register_text}
use Rattle.rv_hart.proofs.texts.write_registers.Given as goal

abbrev pub invariant-loop-r : goal.invariant-loop-r
invariant-loop-r g l =
    record {
      written : SomeHart (λ hart. Appends (g.O.Output.written l.initial.writer) (g.O.Output.written l.writer) (flat_map (register_text hart.registers) (range_with_len 0 l.r))) l.machine.state l.h;
      failed : g.O.Output.has_failed l.writer ≡ g.O.Output.has_failed l.initial.writer;
    }
