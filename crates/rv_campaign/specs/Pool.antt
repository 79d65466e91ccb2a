-- What is made of jobs.
use Rattle.std.specs.Prelude.{◌≡◌, ℕ, List, Some, length, slice_get}

-- of each of so many places, in order, something that may be made there
pub record AreMade {K : Type 0} (makes : ℕ → K → Type 0) (count : ℕ) (made : List K) : Type 0 where
  pub count_is : length made ≡ count
  pub each : (place : ℕ) (one : K) → slice_get made place ≡ Some one → makes place one
