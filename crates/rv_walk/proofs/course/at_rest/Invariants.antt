use Rattle.std.specs.Prelude.{ℕ, ◌<◌}
use Rattle.rv_hart.specs.State.{State}
use Rattle.rv_waits.specs.Stuck.{Runs}
use Rattle.rv_walk.specs.Walked.{IsAt}
use Rattle.rv_walk.proofs.course.at_rest.Given as goal

abbrev pub invariant-loop-h : goal.invariant-loop-h
invariant-loop-h g l = (s : State) → IsAt l.walk s → (k : ℕ) → k < l.h → ¬ Runs s k
