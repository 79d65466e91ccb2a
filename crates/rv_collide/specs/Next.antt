-- What a hart would do next at a place.
use Rattle.std.specs.Prelude.{ℕ, Bool, false, Option, option_and_then, List, slice_get}
use Rattle.std.specs.Option.{option_map_or}
use Rattle.rv_collide.specs.StateAt.{state_at}
use Rattle.rv_collide.specs.declared.entry.Entry.{Entry}
use Rattle.rv_hart.specs.NextAccess.{next_access, next_plain}
use Rattle.rv_hart.specs.Refusals.{is_running_hart}
use Rattle.rv_hart.specs.State.{State}
use Rattle.rv_hart.specs.declared.access.Access.{Access}

-- the hart runs there
unfoldable pub runs_at : State → List Entry → ℕ → ℕ → Bool
runs_at start entries place hart = option_map_or (λ (s : State). is_running_hart (slice_get s.harts hart)) (state_at start entries place) false

-- the access that the hart's step would make there, or none
unfoldable pub next : State → List Entry → ℕ → ℕ → Option Access
next start entries place hart = option_and_then (λ s. next_access s hart) (state_at start entries place)

-- the same where the instruction is a plain load or store, else none
unfoldable pub plain : State → List Entry → ℕ → ℕ → Option Access
plain start entries place hart = option_and_then (λ s. next_plain s hart) (state_at start entries place)
