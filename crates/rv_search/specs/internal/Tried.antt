-- Trials of a run, one more.
use Rattle.std.specs.Prelude.{◌≡◌, ℕ, All, Some, List, slice_get}
use Rattle.rv_search.specs.KeptRun.{IsOfSome}
use Rattle.rv_tables.specs.declared.row.PartReport.{PartReport}
use Rattle.rv_tables.specs.declared.orders.TriedOrder.{TriedOrder}

-- where each trial was of a report, and this is one of the reports, each is still
abbrev pub KeepsTried : PartReport → List TriedOrder → List TriedOrder → Type 0
KeepsTried report old new =
    (reports : List PartReport) (place : ℕ) → slice_get reports place ≡ Some report → All (IsOfSome reports) old → All (IsOfSome reports) new
