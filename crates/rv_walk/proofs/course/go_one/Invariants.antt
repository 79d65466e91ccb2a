use Rattle.std.specs.Prelude.{◌≤◌}
use Rattle.rv_hart.specs.State.{State}
use Rattle.rv_waits.specs.Stuck.{Runs}
use Rattle.rv_walk.specs.Walked.{GoesOn, IsAt}
use Rattle.rv_walk.proofs.course.go_one.Given as goal

abbrev pub invariant-pieces : goal.invariant-pieces
invariant-pieces g l = record {
  runs : (s : State) → IsAt l.walk s → Runs s l.h;
  some : 1 ≤ l.left;
  on : GoesOn l.initial.walk l.walk;
}

abbrev pub decreases-pieces : goal.decreases-pieces
decreases-pieces g l = l.left
