-- the registers from the next one on are left, and pc
use Rattle.std.proofs.Common.{◌≡◌}
use Rattle.std.specs.Prelude.{slice_get}
use Rattle.rv_gdb.proofs.TextLemmas.{AreLeft}
use Rattle.rv_gdb.proofs.shown.write_registers.Given as goal

abbrev pub invariant-loop-r : goal.invariant-loop-r
invariant-loop-r g l =
    record {
      left : AreLeft (slice_get l.machine.state.harts l.h) l.r (g.O.Output.written l.fn.writer) (g.O.Output.written l.writer);
      failed : g.O.Output.has_failed l.writer ≡ g.O.Output.has_failed l.fn.writer;
    }
