-- What is shown of the races of one run.
use Rattle.std.specs.Prelude.{◌≡◌, ℕ, ◌+◌, All, Option, Some, List, Vec, slice_get}
use Rattle.std.specs.declared.alloc.Global.{Global}
use Rattle.rv_collide.specs.Grammar.{schedule_text}
use Rattle.rv_collide.specs.Numbers.{numbers}
use Rattle.rv_collide.specs.declared.collider.Finished.{Finished}
use Rattle.rv_explain.specs.Races.{Run, reports}
use Rattle.rv_races.specs.declared.races.Report.{Report}
use Rattle.rv_remade.specs.declared.shown.InFull.{InFull}
use Rattle.rv_shown.specs.declared.shown.ShownRace.{ShownRace}
use Rattle.rv_remade.specs.declared.shown.ShownPart.{ShownPart}
use Rattle.rv_tables.specs.declared.row.RaceRow.{RaceRow}
use Rattle.rv_search.specs.Hunt.{Hunt}
use Rattle.rv_remade.specs.Shown.{IsRaceShown, IsShown, run_told}
use Rattle.rv_report.specs.declared.key.Key.{Key}

-- the reports of a run
abbrev pub reports_of : InFull → Run → List Report
reports_of full run = reports run full.hunt.now.ranges

-- the race of the row at a place, in a run of so many harts
pub record IsOfRow (full : InFull) (run : Run) (harts place : ℕ) (shown : ShownRace) : Type 0 where
  pub row : Key × RaceRow
  pub there : slice_get full.rows.now place ≡ Some row
  pub is_shown : IsRaceShown full.hunt.now.ranges harts row run shown

-- the row at a place names the run
pub record IsOfRun (full : InFull) (number place : ℕ) : Type 0 where
  pub row : Key × RaceRow
  pub there : slice_get full.rows.now place ≡ Some row
  pub names : row.1.run ≡ number

abbrev pub IsPlaced : InFull → ℕ → Run → ℕ → ℕ × ShownRace → Type 0
IsPlaced full number run harts one = IsOfRow full run harts one.0 one.1 × IsOfRun full number one.0

-- what is shown of a part of the run of that number, made again
pub record IsShownPart (full : InFull) (number : ℕ) (run : Finished) (shown : ShownPart) : Type 0 where
  pub schedule_is : shown.schedule.items ≡ schedule_text (numbers run.plan) run.entries.items
  pub races_are : All (IsPlaced full number (run_told full.symbols.now.image run) run.plan.harts) shown.races.items

-- ---- the slots of all rows

-- what is shown, without where it lies: the hunt and the rows
pub record Full : Type 0 where
  pub hunt : Hunt
  pub rows : List (Key × RaceRow)

abbrev pub of_full : InFull → Full
of_full full = record { hunt = full.hunt.now; rows = full.rows.now }

-- the race of the row at a place is shown in the run that has this schedule
pub record IsOfSchedule (full : Full) (schedule : List ℕ) (place : ℕ) (shown : ShownRace) : Type 0 where
  pub row : Key × RaceRow
  pub there : slice_get full.rows place ≡ Some row
  pub is_shown : IsShown full.hunt (λ text. text ≡ schedule) row shown

abbrev pub IsShownIn : Full → ShownPart → Type 0
IsShownIn full part = All (λ (one : ℕ × ShownRace). IsOfSchedule full part.schedule.items one.0 one.1) part.races.items

-- what is shown of the parts of a run
abbrev pub AreShown : Full → Vec ShownPart Global → Type 0
AreShown full parts = All (IsShownIn full) parts.items

abbrev pub AreShownIn : InFull → List ShownPart → Type 0
AreShownIn full parts = full.symbols.now.image ≡ full.hunt.now.source.image → All (IsShownIn (of_full full)) parts

-- what a slot holds is the race of the row at its place, whose schedule is saved
pub record IsInSlot (full : Full) (Saves : ℕ → List ℕ → Type 0) (place : ℕ) (shown : ShownRace) : Type 0 where
  pub row : Key × RaceRow
  pub there : slice_get full.rows place ≡ Some row
  pub is_shown : IsShown full.hunt (Saves (place + 1)) row shown

abbrev pub AreSlots : Full → (ℕ → List ℕ → Type 0) → List (Option ShownRace) → Type 0
AreSlots full Saves slots =
    (place : ℕ) (shown : ShownRace) → slice_get slots place ≡ Some (Some shown) → IsInSlot full Saves place shown

-- each of the races is the one that the slot at its place holds
abbrev pub AreHeld : List (Option ShownRace) → List ShownRace → Type 0
AreHeld slots races =
    (place : ℕ) (shown : ShownRace) → slice_get races place ≡ Some shown → slice_get slots place ≡ Some (Some shown)
