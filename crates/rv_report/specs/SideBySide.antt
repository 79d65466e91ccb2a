-- What a list of hart steps shows: two accesses side by side.
use Rattle.std.specs.Prelude.{◌≡◌, ◌≢◌, ℕ, Some, List, [], ◌∷◌, ◌++◌}
use Rattle.rv_hart.specs.Conflict.{Conflict}
use Rattle.rv_hart.specs.Run.{run}
use Rattle.rv_hart.specs.State.{State}
use Rattle.rv_hart.specs.Step.{step_of}
use Rattle.rv_hart.specs.declared.access.Access.{Access}
use Rattle.rv_hart.specs.declared.access.Event.TheVariants.{Moved}

-- The list is some steps, then a step that makes the first access, then one that makes the second. Each step of it
-- is there, from the state where the run begins to its end. The two are steps of different harts, and their accesses
-- conflict.
pub record StandSideBySide (start : State) (harts : List ℕ) (first second : Access) : Type 0 where
  pub earlier : List ℕ
  pub one : ℕ
  pub other : ℕ
  pub list : harts ≡ earlier ++ one ∷ other ∷ []
  pub before : State
  pub between : State
  pub after : State
  pub reached : run start earlier ≡ Some before
  pub first_step : step_of before one ≡ Some (Moved (Some first), between)
  pub second_step : step_of between other ≡ Some (Moved (Some second), after)
  pub whole : run start harts ≡ Some after
  pub apart : one ≢ other
  pub conflict : Conflict first second
