-- The starts and the ends of ranges, by which they are looked up.
use Rattle.std.specs.Prelude.{ℕ, ◌+◌, Bool, nat_lt, List, map}
use Rattle.std.specs.List.{filter}
use Rattle.std.specs.List.Sorted.{IsNonDecreasing, IsPermutation}

abbrev pub has_byte : ℕ × ℕ → Bool
has_byte range = nat_lt 0 range.1

-- where the ranges that have a byte begin, and where they end
abbrev pub starts : List (ℕ × ℕ) → List ℕ
starts listed = map (λ range. range.0) (filter has_byte listed)

abbrev pub ends : List (ℕ × ℕ) → List ℕ
ends listed = map (λ range. range.0 + range.1) (filter has_byte listed)

-- both in ascending order
pub record AreBounds (listed : List (ℕ × ℕ)) (begins stops : List ℕ) : Type 0 where
  pub starts_rise : IsNonDecreasing begins
  pub ends_rise : IsNonDecreasing stops
  pub starts_are : IsPermutation (starts listed) begins
  pub ends_are : IsPermutation (ends listed) stops
