-- What the least and greatest pc and a list of ranges say was touched.
use Rattle.std.specs.Prelude.{◌≡◌, ℕ, ◌+◌, Bool, true, ◌&&◌, ◌||◌, nat_le, nat_lt, List}
use Rattle.std.specs.List.{list_any}
use Rattle.rv_waits.specs.Touches.{is_among}
use Rattle.rv_waits.specs.declared.touched.Range.{Range}
use Rattle.rv_waits.specs.declared.touched.Touched.{Touched}

-- a byte of an instruction from the least pc to the greatest
abbrev pub in_instructions : ℕ → ℕ → ℕ → Bool
in_instructions least_pc greatest_pc address = nat_le least_pc address && nat_lt address (greatest_pc + 4)

-- a byte of one of the ranges
abbrev pub in_ranges : List Range → ℕ → Bool
in_ranges ranges address = list_any (λ (range : Range). is_among range.first range.size address) ranges

-- the byte may have been touched: where the ranges were too many to be kept, any may
abbrev pub covers : Touched → ℕ → Bool
covers touched address =
    touched.is_all || (in_instructions touched.least_pc touched.greatest_pc address || in_ranges touched.ranges address)

-- one of `size` bytes from the first on may have been touched
abbrev pub CoversSome : Touched → ℕ → ℕ → Type 0
CoversSome touched first size = (address : ℕ) × (is_among first size address ≡ true) × (covers touched address ≡ true)
