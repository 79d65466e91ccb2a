-- The state at a place. Pauses and breakpoints are erased: only the steps of harts make it.
use Rattle.std.specs.Prelude.{ℕ, Option, List, take}
use Rattle.rv_collide.specs.Entries.{steps}
use Rattle.rv_collide.specs.declared.entry.Entry.{Entry}
use Rattle.rv_hart.specs.Run.{run}
use Rattle.rv_hart.specs.State.{State}

-- the state that the steps among the first `place` entries lead to, if they do to one
unfoldable pub state_at : State → List Entry → ℕ → Option State
state_at start entries place = run start (steps (take place entries))
