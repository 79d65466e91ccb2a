-- What breakpoints are to contracts: the armed addresses, a set, and the data breakpoints.
use Rattle.std.specs.FinSet.{FinSet, empty}
use Rattle.std.specs.Ordering.{nat_cmp}
use Rattle.std.specs.Prelude.{ℕ, None, replicate}
use Rattle.rv_break.specs.Slots.{Slots}

-- The code breakpoints, a set of addresses, and the data breakpoints.
pub record Breaks : Type 0 where
  pub armed : FinSet nat_cmp
  pub slots : Slots

-- none is armed, and so many data breakpoints are free
abbrev pub no_breaks : ℕ → Breaks
no_breaks slots = record { armed = empty; slots = replicate slots None }
