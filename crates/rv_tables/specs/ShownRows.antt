-- The races of a hunt as they are shown: a changed report is shown with the race of the pair that its block names.
use Rattle.std.specs.Prelude.{◌+◌, ◌==◌, ◌&&◌, ◌||◌, nat_lt, not, Bool, Option, Some, None, is_some, option_map, if◌then◌else◌, List, [], ◌∷◌, filter, filter_map, map}
use Rattle.std.specs.List.{fold, list_any}
use Rattle.rv_collide.specs.Counts.{saturated}
use Rattle.rv_races.specs.Classes.{rank}
use Rattle.rv_tables.specs.Rows.{has_race}
use Rattle.rv_tables.specs.declared.changed.ChangedKey.{ChangedKey}
use Rattle.rv_tables.specs.declared.row.RaceRow.{RaceRow}
use Rattle.rv_tables.specs.declared.shown_rows.Placed.{Placed}
use Rattle.rv_report.specs.Races.{same_key}
use Rattle.rv_report.specs.declared.key.Key.{Key}

-- ---- with which race changed reports are shown

-- the race is of two instructions
abbrev pub is_of_two : Key → Bool
is_of_two key = is_some key.second

-- These reports name a pair, and its race is among those that are told.
abbrev pub has_pair : List (Key × RaceRow) → ChangedKey → Bool
has_pair told key = is_of_two key.pair && has_race key.pair told

-- They are shown with that race then, else as their own.
abbrev pub race_of : List (Key × RaceRow) → ChangedKey → Key
race_of told key = if has_pair told key then key.pair else key.own

abbrev pub place : List (Key × RaceRow) → ChangedKey × RaceRow → Placed
place told changed = record { own = changed.0.own; race = race_of told changed.0; row = changed.1 }

-- their own race is told, and so they are not ignored
abbrev pub is_counted : List (Key × RaceRow) → ChangedKey × RaceRow → Bool
is_counted told changed = has_race changed.0.own told

-- all changed reports that are not ignored
abbrev pub placed : List (Key × RaceRow) → List (ChangedKey × RaceRow) → List Placed
placed told changed = map (place told) (filter (is_counted told) changed)

-- ---- the rows

-- those that are shown with a race
abbrev pub with_race : Key → List Placed → List Placed
with_race key placed = filter (λ (one : Placed). same_key one.race key) placed

-- some reports of a race of one instruction are shown with that of their pair
abbrev pub moves : Key → Placed → Bool
moves key one = same_key one.own key && not (same_key one.race key)

abbrev pub has_moved : Key → List Placed → Bool
has_moved key placed = list_any (moves key) placed

-- A race's row whose count is raised by those of changed reports. Its hits alone say of what class it is.
abbrev pub raised : RaceRow → List Placed → RaceRow
raised row more = record row { count = fold (λ n (one : Placed). saturated (n + one.row.count)) row.count more }

-- a row tells of a stronger class than another, or of the same one in an earlier run, or in an earlier part of that
abbrev pub comes_before : RaceRow → RaceRow → Bool
comes_before one other =
    nat_lt (rank one.class) (rank other.class) || rank one.class == rank other.class && (nat_lt one.run other.run || one.run == other.run && nat_lt one.part other.part)

abbrev pub told_first : RaceRow → RaceRow → RaceRow
told_first first later = if comes_before later first then later else first

-- two rows of a race made one, whichever comes first
abbrev pub joined_first : RaceRow → Placed → RaceRow
joined_first first later = record (told_first first later.row) { count = saturated (first.count + later.row.count) }

-- what is left of a race of one instruction: one row of its reports, where there are any
abbrev pub left : List Placed → Option RaceRow
left [] = None
left (first ∷ later) = Some (fold joined_first first.row later)

-- How a race that is told is shown. That of one instruction isn't, where all its reports are shown with those of their pairs.
abbrev pub shown_row : List Placed → Key × RaceRow → Option (Key × RaceRow)
shown_row placed row =
    if is_of_two row.0 then Some (row.0, raised row.1 (with_race row.0 placed))
    else (if has_moved row.0 placed then option_map (λ (one : RaceRow). (row.0, one)) (left (with_race row.0 placed))
    else Some row)

-- The races as they are shown, of the rows that are told and the changed reports.
abbrev pub shown_rows : List (Key × RaceRow) → List (ChangedKey × RaceRow) → List (Key × RaceRow)
shown_rows told changed = filter_map (shown_row (placed told changed)) told
