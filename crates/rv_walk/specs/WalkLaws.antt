-- What holds of the list of a walk's steps.
use Rattle.std.specs.Prelude.{◌≡◌, ℕ, ◌≤◌, Some, List, length}
use Rattle.rv_collide.specs.Joined.{IsPrefix}
use Rattle.rv_collide.specs.Plan.{Numbers}
use Rattle.rv_hart.specs.Run.{run}
use Rattle.rv_hart.specs.State.{State}
use Rattle.rv_walk.specs.Walked.{entries_of}

-- Steps that lead from one state to another are a legal schedule under each plan of as many harts and with room for the steps. At its
-- end no pause is open and no address armed, so that one may go on from there.
abbrev pub StepsAreAPrefix : Type 0
StepsAreAPrefix =
    (start end : State) (plan : Numbers) (harts : List ℕ) → run start harts ≡ Some end → length start.harts ≡ plan.harts → length harts ≤ plan.steps → IsPrefix (record { start = start; plan = plan }) (entries_of harts) end
