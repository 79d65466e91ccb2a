use Rattle.std.proofs.Common.{◌≡◌, length}
use Rattle.rv_waits.specs.Watch.{IsWatchOf}
use Rattle.rv_machine_tests.proofs.waits.until_stuck.Given as goal

abbrev pub invariant-loop : goal.invariant-loop
invariant-loop g l = (length l.machine.state.harts ≡ 2) × IsWatchOf l.watch l.machine.state
