-- The first of what is found at some places.
use Rattle.std.specs.Prelude.{ℕ, ◌+◌, zero, suc, Option, None}
use Rattle.std.specs.Option.{option_or}

-- the first of what is found at so many places from one on
unfoldable pub first_in : {A : Type 0} → (ℕ → Option A) → ℕ → ℕ → Option A
first_in at from zero = None
first_in at from (suc count) = option_or (at from) (first_in at (from + 1) count)
