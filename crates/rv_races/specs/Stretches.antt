-- Which entries are shown around the places that a report is about.
use Rattle.std.specs.Prelude.{ℕ, ◌+◌, ◌-◌, Bool, ◌&&◌, ◌||◌, nat_le, List}
use Rattle.std.specs.List.{list_any}

-- no more than so many entries are from one place to the other
abbrev pub is_close : ℕ → ℕ → ℕ → Bool
is_close around at place = nat_le place (at + around) && nat_le at (place + around)

abbrev pub is_near : ℕ → List ℕ → ℕ → Bool
is_near around places at = list_any (is_close around at) places

-- it is near to one of the places, or alone between two that are
abbrev pub is_shown : ℕ → List ℕ → ℕ → Bool
is_shown around places at =
    is_near around places at || (is_near around places (at - 1) && is_near around places (at + 1))
