-- What is shown of the orders of races, while their trials are made again.
use Rattle.std.specs.Prelude.{◌≡◌, ℕ, All, None, Some, List, Vec, slice_get}
use Rattle.std.specs.declared.alloc.Global.{Global}
use Rattle.rv_explain.specs.Races.{Run, reports}
use Rattle.rv_races.specs.declared.races.Report.{Report}
use Rattle.rv_search.specs.Hunt.{Hunt}
use Rattle.rv_tables.specs.Keyed.{row_at}
use Rattle.rv_remade.specs.OrderShown.{AreOrdersShown, IsTrialShown}
use Rattle.rv_tables.specs.Orders.{first_of}
use Rattle.rv_remade.specs.declared.orders.Again.{Again}
use Rattle.rv_remade.specs.declared.orders.PlacedTrial.{PlacedTrial}
use Rattle.rv_shown.specs.declared.shown.ShownOrder.{ShownOrder}
use Rattle.rv_remade.specs.declared.orders.WantedTrial.{WantedTrial}
use Rattle.rv_tables.specs.declared.orders.OrderRow.{OrderRow}
use Rattle.rv_tables.specs.declared.orders.TrialPlace.{TrialPlace}
use Rattle.rv_tables.specs.declared.row.RaceRow.{RaceRow}
use Rattle.rv_report.specs.Races.{same_key}
use Rattle.rv_report.specs.declared.key.Key.{Key}

-- the reports of a run
abbrev pub reports_of : Again → Run → List Report
reports_of again run = reports run again.hunt.now.ranges

-- it is one of those that are to be made again
pub record IsPlaced (again : Again) (trial : PlacedTrial) : Type 0 where
  pub number : ℕ
  pub wanted : WantedTrial
  pub there : slice_get again.wanted.now number ≡ Some wanted
  pub place_is : trial.place ≡ wanted.place
  pub is_shown : again.symbols.now.image ≡ again.hunt.now.source.image → IsTrialShown again.hunt.now wanted.key wanted.at trial.made

abbrev pub AreMade : Again → List PlacedTrial → Type 0
AreMade again = All (IsPlaced again)

-- ---- the races whose orders are shown

-- the hunt, its trials by races, and which races are shown
pub record Full : Type 0 where
  pub hunt : Hunt
  pub tried : List (Key × OrderRow)
  pub keys : List Key

-- what is known of a race's order, where no trial is shown
abbrev pub known_of : List (Key × OrderRow) → Key × RaceRow → ShownOrder
known_of tried row = record { key = row.0; row = row_at same_key tried row.0; made = None }

-- it is the first of the race at its place by which some hart ended otherwise
abbrev pub IsWanted : List (Key × OrderRow) → List Key → WantedTrial → Type 0
IsWanted tried keys wanted = (slice_get keys wanted.place ≡ Some wanted.key) × (first_of (row_at same_key tried wanted.key) ≡ Some wanted.at)

-- the same of one that was made again
pub record IsOfPlace (full : Full) (trial : PlacedTrial) : Type 0 where
  pub key : Key
  pub there : slice_get full.keys trial.place ≡ Some key
  pub at : TrialPlace
  pub at_is : first_of (row_at same_key full.tried key) ≡ Some at
  pub is_shown : IsTrialShown full.hunt key at trial.made

-- those of a run
abbrev pub AreOfRun : Full → Vec PlacedTrial Global → Type 0
AreOfRun full trials = All (IsOfPlace full) trials.items

abbrev pub AreKnown : Full → List ShownOrder → Type 0
AreKnown full shown = AreOrdersShown full.hunt full.tried full.keys shown
