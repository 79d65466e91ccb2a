-- What the runs of a hunt saw, and which runs it makes.
use Rattle.std.specs.Prelude.{◌≡◌, ℕ, Bool, ◌+◌, ◌<◌, true, false, List, [], ◌∷◌, ◌++◌, Some, filter_map, length, map, slice_get, take}
use Rattle.std.specs.List.{flat_map}
use Rattle.rv_tables.specs.Changed.{changed_of, row_if}
use Rattle.rv_search.specs.Hunt.{Hunt}
use Rattle.rv_search.specs.KeptRun.{IsOfRun}
use Rattle.rv_tables.specs.Near.{near_of}
use Rattle.rv_tables.specs.Orders as orders
use Rattle.rv_search.specs.RightEnds.{EndsSeen, has_wrong_end}
use Rattle.rv_tables.specs.Rows.{row_of, table_of}
use Rattle.rv_search.specs.Tally.{Tally, reached, tally_of}
use Rattle.rv_tables.specs.declared.changed.ChangedKey.{ChangedKey}
use Rattle.rv_search.specs.declared.hunted.Hunted.{Hunted}
use Rattle.rv_search.specs.declared.kept_run.KeptRun.{KeptRun}
use Rattle.rv_tables.specs.declared.near.NearRow.{NearRow}
use Rattle.rv_tables.specs.declared.orders.OrderRow.{OrderRow}
use Rattle.rv_tables.specs.declared.row.RaceRow.{RaceRow}
use Rattle.rv_report.specs.declared.key.Key.{Key}
use Rattle.rv_plans.specs.GoesOn.{goes_on}
use Rattle.rv_walk.specs.declared.near_pair.Addresses.{Addresses}

-- ---- what runs saw

abbrev pub summed : List KeptRun → Tally
summed runs = tally_of (map (λ (kept : KeptRun). kept.summary) runs)

-- a row for each report of the run of that number
abbrev pub rows_of : ℕ → KeptRun → List (Key × RaceRow)
rows_of run kept = map (row_of run) kept.reports.items

-- the rows of runs from that number on
unfoldable pub rows_from : ℕ → List KeptRun → List (Key × RaceRow)
rows_from first [] = []
rows_from first (kept ∷ later) = rows_of first kept ++ rows_from (first + 1) later

-- a row for each changed report of the run of that number
abbrev pub changed_rows : ℕ → KeptRun → List (ChangedKey × RaceRow)
changed_rows run kept = filter_map (row_if run) kept.reports.items

-- those of runs from that number on
unfoldable pub changed_from : ℕ → List KeptRun → List (ChangedKey × RaceRow)
changed_from first [] = []
changed_from first (kept ∷ later) = changed_rows first kept ++ changed_from (first + 1) later

-- the near pairs of runs
abbrev pub near_in : List KeptRun → List (Addresses × NearRow)
near_in runs = flat_map (λ (kept : KeptRun). kept.near.items) runs

-- a row for each trial of the run of that number
abbrev pub tried_of : ℕ → KeptRun → List (Key × OrderRow)
tried_of run kept = map (orders.row_of run) kept.tried.items

-- those of runs from that number on
unfoldable pub tried_from : ℕ → List KeptRun → List (Key × OrderRow)
tried_from first [] = []
tried_from first (kept ∷ later) = tried_of first kept ++ tried_from (first + 1) later

-- what the runs from that number on saw
unfoldable pub seen_in : ℕ → List KeptRun → Hunted
seen_in first runs = record {
  tally = summed runs;
  table = table_of (rows_from first runs);
  changed = changed_of (changed_from first runs);
  near = near_of (near_in runs);
  orders = orders.orders_of (tried_from first runs);
}

-- ---- which runs are made

-- one more run is made, behind those that the tally tells of
abbrev pub is_due : Hunt → Tally → Bool
is_due hunt saw = goes_on hunt.limit hunt.first (reached saw)

-- The runs from the first on: each has the next number, and each was to be made by what those before it saw.
pub record AreRuns (hunt : Hunt) (runs : List KeptRun) : Type 0 where
  pub each : (place : ℕ) (kept : KeptRun) → slice_get runs place ≡ Some kept → IsOfRun hunt (hunt.first + place) kept
  pub due : (place : ℕ) → place < length runs → is_due hunt (summed (take place runs)) ≡ true

-- This is what so many runs of a hunt saw.
pub record IsSoFar (hunt : Hunt) (hunted : Hunted) : Type 0 where
  pub runs : List KeptRun
  pub are_runs : AreRuns hunt runs
  pub seen : hunted ≡ seen_in hunt.first runs

-- This is what all runs of a hunt saw: no more is to be made.
pub record IsHunted (hunt : Hunt) (hunted : Hunted) : Type 0 where
  pub so_far : IsSoFar hunt hunted
  pub is_over : is_due hunt hunted.tally ≡ false

-- ---- how harts ended

-- This is what so many runs of a hunt saw, and whether one of their harts ended as it should not.
pub record IsNotedSoFar (hunt : Hunt) (hunted : Hunted) (ends : EndsSeen) : Type 0 where
  pub so_far : IsSoFar hunt hunted
  pub wrong : ends.is_wrong ≡ has_wrong_end ends.right so_far.runs

-- the same of all runs of a hunt
pub record IsNoted (hunt : Hunt) (hunted : Hunted) (ends : EndsSeen) : Type 0 where
  pub hunted_is : IsHunted hunt hunted
  pub wrong : ends.is_wrong ≡ has_wrong_end ends.right hunted_is.so_far.runs
