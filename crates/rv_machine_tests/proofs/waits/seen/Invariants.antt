use Rattle.std.proofs.Common.{◌<◌, length}
use Rattle.rv_waits.specs.Watch.{IsWatchOf}
use Rattle.rv_machine_tests.proofs.waits.seen.Given as goal

abbrev pub invariant-loop : goal.invariant-loop
invariant-loop l = (0 < length l.machine.state.harts) × IsWatchOf l.watch l.machine.state
