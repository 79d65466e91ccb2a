use Rattle.std.proofs.Common.{◌≡◌, length}
use Rattle.rv_machine_tests.proofs.waits.assert_stays.Given as goal

abbrev pub invariant-loop : goal.invariant-loop
invariant-loop g l = length l.machine.state.harts ≡ 2
