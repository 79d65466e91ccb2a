-- How the harts of all runs ended, in rows.
use Rattle.std.specs.Prelude.{ℕ, ◌==◌, if◌then◌else◌, List, [], ◌∷◌, ◌++◌, map}
use Rattle.rv_search.specs.Kinds.{Kinds}
use Rattle.rv_search.specs.Tally.{Ended}
use Rattle.rv_search.specs.declared.ended.EndedRow.{EndedRow}
use Rattle.rv_search.specs.declared.ended.Ways.{Ways}
use Rattle.rv_search.specs.declared.ended.Ways.TheVariants.{One, OtherExits, OtherStops, OtherWaits}
use Rattle.rv_search.specs.declared.tally.kinds.Kind.{Kind}
use Rattle.rv_search.specs.declared.end.End.TheVariants.{OutOfSteps}

abbrev pub row_of : Kind → EndedRow
row_of kind = record { ways = One kind.end; harts = kind.count }

-- a row, where there are any harts
abbrev pub row_if : Ways → ℕ → List EndedRow
row_if ways harts = if harts == 0 then [] else record { ways = ways; harts = harts } ∷ []

-- the ways that have a row of their own, in the order in which they were met, and the others together
abbrev pub kind_rows : Kinds → Ways → List EndedRow
kind_rows kinds others = map row_of kinds.told ++ row_if others kinds.rest

-- exits by code, then traps by cause and address, then those that waited for ever, then those that had no steps left
abbrev pub ended_rows : Ended → List EndedRow
ended_rows ended = kind_rows ended.exits OtherExits ++ (kind_rows ended.stops OtherStops ++ (kind_rows ended.waits OtherWaits ++ row_if (One OutOfSteps) ended.out_of_steps))
