-- the threads from the next one on are left
use Rattle.std.proofs.Common.{◌≡◌, ◌-◌}
use Rattle.std.specs.List.{flat_map, range_with_len}
use Rattle.rv_gdb.specs.Shown.{next_thread, threads_text}
use Rattle.rv_gdb.proofs.TextLemmas.{IsLeft}
use Rattle.rv_gdb.proofs.shown.write_threads.Given as goal

abbrev pub invariant-loop-hart : goal.invariant-loop-hart
invariant-loop-hart g l =
    record {
      left : IsLeft (threads_text l.harts) (flat_map next_thread (range_with_len l.hart (l.harts - l.hart))) (g.O.Output.written l.fn.writer) (g.O.Output.written l.writer);
      failed : g.O.Output.has_failed l.writer ≡ g.O.Output.has_failed l.fn.writer;
    }
