-- the registers from the next one on are left
use Rattle.std.proofs.Common.{◌≡◌, ◌-◌}
use Rattle.std.specs.List.{flat_map, range_with_len}
use Rattle.rv_gdb.specs.Features.{register_element, register_elements}
use Rattle.rv_gdb.proofs.TextLemmas.{IsLeft}
use Rattle.rv_gdb.proofs.features.write_registers.Given as goal

abbrev pub invariant-loop-r : goal.invariant-loop-r
invariant-loop-r g l =
    record {
      left : IsLeft register_elements (flat_map register_element (range_with_len l.r (32 - l.r))) (g.O.Output.written l.fn.writer) (g.O.Output.written l.writer);
      failed : g.O.Output.has_failed l.writer ≡ g.O.Output.has_failed l.fn.writer;
    }
