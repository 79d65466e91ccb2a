-- What holds of hunt tables.
use Rattle.std.specs.Prelude.{◌≡◌, false, ℕ, List, [], ◌∷◌, ◌++◌, map}
use Rattle.std.specs.List.{fold, flat_map}
use Rattle.rv_tables.specs.Origin.{Origin, joined_origin}
use Rattle.rv_tables.specs.Rows.{has_race, merged, table_of}
use Rattle.rv_tables.specs.declared.row.RaceRow.{RaceRow}
use Rattle.rv_report.specs.declared.key.Key.{Key}

-- Tables of the pieces of a list of rows, merged in the order of the pieces, are the table of the whole list.
abbrev pub PiecesAreMerged : Type 0
PiecesAreMerged = (pieces : List (List (Key × RaceRow))) → fold merged [] (map table_of pieces) ≡ table_of (flat_map (λ piece. piece) pieces)

-- of two pieces
abbrev pub TwoAreMerged : Type 0
TwoAreMerged = (earlier later : List (Key × RaceRow)) → merged (table_of earlier) (table_of later) ≡ table_of (earlier ++ later)

-- a table's own rows make that table
abbrev pub TableIsKept : Type 0
TableIsKept = (rows : List (Key × RaceRow)) → table_of (table_of rows) ≡ table_of rows

-- the same of the runs from a number up to another
abbrev pub of_runs : Origin → ℕ → ℕ → Origin
of_runs origin first end = record origin { stretches = record { first = first; end = end } ∷ [] }

-- What the rows of two pieces of a hunt are of, joined, is what those of the whole are of: the later begins where the earlier ends.
abbrev pub OriginsAreJoined : Type 0
OriginsAreJoined =
    (origin : Origin) (first middle end : ℕ) → joined_origin (of_runs origin first middle) (of_runs origin middle end) ≡ of_runs origin first end

-- no race has two of the rows
abbrev pub AreApart : List (Key × RaceRow) → Type 0
AreApart [] = Unit {0}
AreApart (e ∷ es) = (has_race e.0 es ≡ false) × AreApart es

-- So it is of a table.
abbrev pub RacesAreApart : Type 0
RacesAreApart = (rows : List (Key × RaceRow)) → AreApart (table_of rows)
