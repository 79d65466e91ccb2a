-- Rows with keys, each key once.
use Rattle.std.specs.Prelude.{Bool, Option, Some, None, List, [], ◌∷◌, if◌then◌else◌}

-- A row more, by a test of keys: it is joined to that of its key, or comes last where there is none.
abbrev pub added_by : {K V : Type 0} → (K → K → Bool) → (V → V → V) → List (K × V) → K × V → List (K × V)
added_by same join [] row = row ∷ []
added_by same join (e ∷ es) row = if same row.0 e.0 then (e.0, join e.1 row.1) ∷ es else e ∷ added_by same join es row

-- the row of a key, if it has one
abbrev pub row_at : {K V : Type 0} → (K → K → Bool) → List (K × V) → K → Option V
row_at same [] key = None
row_at same (e ∷ es) key = if same key e.0 then Some e.1 else row_at same es key

-- the same row with what one row more says
abbrev pub with_row : {V : Type 0} → (V → V → V) → Option V → V → V
with_row join (Some first) later = join first later
with_row join None later = later
