use Rattle.std.proofs.Common.{◌≡◌, length}
use Rattle.rv_waits.specs.Watch.{IsWatchOf}
use Rattle.rv_machine_tests.proofs.waits.steps.Given as goal

abbrev pub invariant-loop : goal.invariant-loop
invariant-loop l = (length l.machine.state.harts ≡ length l.initial.machine.state.harts) × IsWatchOf l.watch l.machine.state
