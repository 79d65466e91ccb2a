-- the machine is at the place
use Rattle.std.proofs.Common.{◌≡◌, Some}
use Rattle.rv_collide.specs.StateAt.{state_at}
use Rattle.rv_explain.proofs.stuck.after.make_steps.Given as goal

abbrev pub invariant-loop-place : goal.invariant-loop-place
invariant-loop-place l = state_at l.initial.machine.state l.entries l.place ≡ Some l.machine.state
