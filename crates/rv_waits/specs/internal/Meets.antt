use Rattle.std.specs.Prelude.{ℕ, ◌+◌, Bool, max, min, nat_lt, List}
use Rattle.std.specs.List.{list_any}
use Rattle.rv_waits.specs.declared.touched.Range.{Range}

-- some address lies from `first` to before `end`, and from `other` to before `other_end`
abbrev pub overlaps : ℕ → ℕ → ℕ → ℕ → Bool
overlaps first end other other_end = nat_lt (max first other) (min end other_end)

-- one of the ranges meets these bytes
abbrev pub meets_some : List Range → ℕ → ℕ → Bool
meets_some ranges first size =
    list_any (λ (range : Range). overlaps range.first (range.first + range.size) first (first + size)) ranges
