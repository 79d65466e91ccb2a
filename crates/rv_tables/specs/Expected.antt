-- Which races a hunt counts, and which of them were not expected.
use Rattle.std.specs.Prelude.{Bool, true, false, not, ◌&&◌, List}
use Rattle.rv_races.specs.declared.classes.RaceClass.{RaceClass}
use Rattle.rv_races.specs.declared.classes.RaceClass.TheVariants.{Kept, Counter, Unwatched, Flag, Ordered, Atomic, Named}
use Rattle.rv_tables.specs.Rows.{has_race}
use Rattle.rv_tables.specs.declared.row.RaceRow.{RaceRow}
use Rattle.rv_report.specs.declared.key.Key.{Key}

-- A race of the class may be a bug. What the rule takes for a statistics counter may be a lost update.
abbrev pub may_be_bug : RaceClass → Bool
may_be_bug Kept = true
may_be_bug Counter = true
may_be_bug Unwatched = false
may_be_bug Flag = false
may_be_bug Ordered = false
may_be_bug Atomic = false
may_be_bug Named = false

-- a race of the class is likely benign: it is told last
abbrev pub is_likely_benign : RaceClass → Bool
is_likely_benign Kept = false
is_likely_benign Counter = false
is_likely_benign Unwatched = false
is_likely_benign Flag = true
is_likely_benign Ordered = true
is_likely_benign Atomic = true
is_likely_benign Named = false

-- What a race of the class is isn't known: no data breakpoint watched the pause. It counts as neither.
abbrev pub is_unwatched : RaceClass → Bool
is_unwatched Kept = false
is_unwatched Counter = false
is_unwatched Unwatched = true
is_unwatched Flag = false
is_unwatched Ordered = false
is_unwatched Atomic = false
is_unwatched Named = false

-- the race may be a bug, and those that were expected have no row of it, of whatever class
abbrev pub is_unexpected : List (Key × RaceRow) → Key × RaceRow → Bool
is_unexpected expected row = may_be_bug row.1.class && not (has_race row.0 expected)
