-- the bytes from the next one on are left
use Rattle.std.proofs.Common.{◌≡◌, ◌+◌, ◌-◌}
use Rattle.rv_gdb.specs.Shown.{bytes_text}
use Rattle.rv_gdb.proofs.TextLemmas.{IsLeft}
use Rattle.rv_gdb.proofs.shown.write_bytes.Given as goal

abbrev pub invariant-loop-i : goal.invariant-loop-i
invariant-loop-i g l =
    record {
      left : IsLeft (bytes_text l.machine.state.memory l.range.from l.range.length) (bytes_text l.machine.state.memory (l.range.from + l.i) (l.range.length - l.i)) (g.O.Output.written l.fn.writer) (g.O.Output.written l.writer);
      failed : g.O.Output.has_failed l.writer ≡ g.O.Output.has_failed l.fn.writer;
    }
