-- What one ending does to a table.
use Rattle.std.specs.Prelude.{ℕ, ◌+◌, Option, Some, None, List, [], ◌∷◌, if◌then◌else◌}
use Rattle.rv_collide.specs.declared.ending.Ending.{Ending}
use Rattle.rv_prune.specs.declared.class.Class.{Class}
use Rattle.rv_prune.specs.declared.class.Class.TheVariants.{Named, Flag, Counter, Kept}
use Rattle.rv_collide.specs.Counts.{saturated}
use Rattle.rv_report.specs.Races.{Told, Table, key_of, same_key}
use Rattle.rv_report.specs.declared.key.Key.{Key}
use Rattle.rv_report.specs.declared.row.Row.{Row}

-- the row of a key
abbrev pub row_of : List (Key × Row) → Key → Option Row
row_of [] key = None
row_of (e ∷ es) key = if same_key key e.0 then Some e.1 else row_of es key

-- a row with one more ending, which is its first where there is no row yet
abbrev pub raised_row : Option Row → ℕ → Ending → Row
raised_row (Some row) run ending = record { count = saturated (row.count + 1); run = row.run; ending = row.ending }
raised_row None run ending = record { count = 1; run = run; ending = ending }

-- the row of a key is raised, or a new one goes last
abbrev pub raised : List (Key × Row) → Key → ℕ → Ending → List (Key × Row)
raised [] key run ending = (key, raised_row None run ending) ∷ []
raised (e ∷ es) key run ending =
    if same_key key e.0 then (e.0, raised_row (Some e.1) run ending) ∷ es else e ∷ raised es key run ending

abbrev pub added_key : Table → ℕ → Ending → Class → Option Key → Table
added_key table run ending class None = table
added_key table run ending Named (Some key) = record table { named = saturated (table.named + 1) }
added_key table run ending Flag (Some key) = record table { flag = saturated (table.flag + 1) }
added_key table run ending Counter (Some key) = record table { counter = saturated (table.counter + 1) }
added_key table run ending Kept (Some key) = record table { rows = raised table.rows key run ending }

abbrev pub added : Table → Told → Table
added table t = added_key table t.run t.ending t.class (key_of t.ending.access t.ending.verdict)
