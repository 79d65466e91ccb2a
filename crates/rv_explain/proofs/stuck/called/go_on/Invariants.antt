-- the steps so far
use Rattle.std.proofs.Common.{◌≡◌, Some, replicate}
use Rattle.rv_hart.specs.Run.{run}
use Rattle.rv_explain.proofs.stuck.called.go_on.Given as goal

abbrev pub invariant-loop-made : goal.invariant-loop-made
invariant-loop-made l = run l.initial.machine.state (replicate l._made l.hart) ≡ Some l.machine.state
