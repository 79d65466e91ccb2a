use Rattle.std.specs.Prelude.{◌≡◌, ℕ, Some, List, length, slice_get}
use Rattle.rv_hart.specs.State.{State}
use Rattle.rv_stuck.specs.StuckEnd.{IsDoing}
use Rattle.rv_stuck.specs.declared.stuck.Doing.{Doing}

-- what each of the first k harts does
pub record AreDoings (s : State) (k : ℕ) (doings : List Doing) : Type 0 where
  pub count : length doings ≡ k
  pub each : (h : ℕ) (doing : Doing) → slice_get doings h ≡ Some doing → IsDoing s h doing
