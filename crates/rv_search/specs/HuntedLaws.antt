-- What holds of hunts.
use Rattle.std.specs.Prelude.{◌≡◌, true, ℕ, ◌+◌, ◌^◌, ◌≤◌, Some, slice_get}
use Rattle.rv_search.specs.Hunt.{Hunt}
use Rattle.rv_search.specs.Hunted.{IsHunted}
use Rattle.rv_search.specs.KeptRun.{IsOfRun}
use Rattle.rv_tables.specs.Rows.{merged, row_of}
use Rattle.rv_search.specs.declared.hunted.Hunted.{Hunted}
use Rattle.rv_search.specs.declared.kept_run.KeptRun.{KeptRun}
use Rattle.rv_tables.specs.declared.row.PartReport.{PartReport}
use Rattle.rv_tables.specs.declared.row.RaceRow.{RaceRow}
use Rattle.rv_report.specs.Races.{same_key}
use Rattle.rv_report.specs.declared.key.Key.{Key}
use Rattle.rv_plans.specs.declared.limit.Limit.TheVariants.{Runs}
use Rattle.rv_plans.specs.declared.plans.Mix.TheVariants.{Sampled}

-- What a hunt of sampled runs sees follows from what is asked of it, however its runs are made.
abbrev pub OneResult : Type 0
OneResult = (hunt : Hunt) (one other : Hunted) → hunt.given.mix ≡ Sampled → IsHunted hunt one → IsHunted hunt other → one ≡ other

-- the hunt of just so many runs from a number on
abbrev pub piece : Hunt → ℕ → ℕ → Hunt
piece hunt first runs = record hunt { first = first; limit = Runs runs }

-- What the runs of two pieces saw, one behind the other, is what those of the whole may see, and its table is that of the pieces, merged
-- in the order of their numbers.
abbrev pub PiecesAreWhole : Type 0
PiecesAreWhole =
    (hunt : Hunt) (first some more : ℕ) (earlier later : Hunted) → first + some + more ≤ 2 ^ 32 → IsHunted (piece hunt first some) earlier → IsHunted (piece hunt (first + some) more) later
    → (whole : Hunted) × IsHunted (piece hunt first (some + more)) whole × (whole.table ≡ merged earlier.table later.table)

-- The row tells, but for its count, of a report of the run that it names.
pub record IsReported (hunt : Hunt) (row : Key × RaceRow) : Type 0 where
  pub kept : KeptRun
  pub of_run : IsOfRun hunt row.1.run kept
  pub at : ℕ
  pub report : PartReport
  pub among : slice_get kept.reports.items at ≡ Some report
  pub key_is : same_key row.0 report.report.key ≡ true
  pub row_is : row.1 ≡ record (row_of row.1.run report).1 { count = row.1.count }

-- So does each row of a hunt's table.
abbrev pub RowsAreTold : Type 0
RowsAreTold = (hunt : Hunt) (hunted : Hunted) (place : ℕ) (row : Key × RaceRow) → IsHunted hunt hunted → slice_get hunted.table place ≡ Some row → IsReported hunt row
