-- A schedule that is told again, entry by entry.
use Rattle.std.specs.Prelude.{◌≡◌, ℕ, List, take}
use Rattle.rv_collide.specs.Stored.{Stored}
use Rattle.rv_collide.specs.declared.entry.Entry.{Entry}

-- the core has been told the entries before a place of the schedule, and nothing else
abbrev pub IsToldUpTo : Stored → List Entry → ℕ → Type 0
IsToldUpTo c entries place = c.entries ≡ take place entries
