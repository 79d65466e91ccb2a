-- A place of a session's schedule that is looked at while the session stays where it is.
use Rattle.std.specs.Prelude.{◌≡◌, ℕ, ◌≤◌, Some, length}
use Rattle.rv_collide.specs.StateAt.{state_at}
use Rattle.rv_debug.specs.Placed.{Placed, setting}
use Rattle.rv_hart.specs.State.{Guest}

-- the place, and a machine
pub record Visited : Type 0 where
  pub place : ℕ
  pub machine : Guest

-- It is a visit of that place of the schedule: the machine's state is the one there, and it may print as many bytes as
-- the plan allows steps.
pub record IsVisit (p : Placed) (place : ℕ) (visit : Visited) : Type 0 where
  pub there : visit.place ≡ place
  pub within : place ≤ length p.entries
  pub state : state_at (setting p).start p.entries place ≡ Some visit.machine.state
  pub limit : visit.machine.limit ≡ p.plan.steps
