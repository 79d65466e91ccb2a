-- What workers have made, in whatever order.
use Rattle.std.specs.Prelude.{◌≡◌, ℕ, Option, Some, List, slice_get}

-- what the slots hold may be made at their places
abbrev pub AreSlots : {K : Type 0} → (ℕ → K → Type 0) → List (Option K) → Type 0
AreSlots {K = K} makes slots = (place : ℕ) (one : K) → slice_get slots place ≡ Some (Some one) → makes place one
