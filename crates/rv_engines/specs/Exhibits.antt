-- What `exhibit` writes of two files, an image and a schedule, and the number of an ending.
use Rattle.std.specs.Prelude.{ℕ, IsOkAnd, List}
use Rattle.rv_collide.specs.Replays.{IsFirstFault}
use Rattle.rv_collide.specs.Stored.{Stored, setting_of}
use Rattle.rv_report.specs.Exhibit.{IsExhibit, IsExhibitFault}
use Rattle.rv_report.specs.ExhibitText.{exhibit_text}
use Rattle.rv_report.specs.SideBySide.{StandSideBySide}
use Rattle.rv_report.specs.declared.exhibit.Exhibit.{Exhibit as Shown}
use Rattle.rv_faults.specs.Fault.{IsToldFault}
use Rattle.rv_engines.specs.Replay.{run_of}
use Rattle.rv_faults.specs.declared.fault.Fault.{Fault}
use Rattle.rv_faults.specs.declared.fault.Fault.TheVariants.{Entry, Exhibit}

-- The exhibit of the run's ending of the number. Its list, run from the start on the plain machine, ends in its two
-- accesses.
pub record IsCertificate (run : Stored) (n : ℕ) (shown : Shown) : Type 0 where
  pub is_exhibit : IsExhibit (setting_of run) run.entries n shown
  pub side_by_side : StandSideBySide (setting_of run).start shown.harts.items shown.first shown.second

-- this is written of it
pub record IsCertified (run : Stored) (n : ℕ) (Writes : List ℕ → Type 0) : Type 0 where
  pub shown : Shown
  pub certificate : IsCertificate run n shown
  pub written : Writes (exhibit_text shown)

-- The fault is the one that is told of two files: the first entry that is not what a call would add, or why the ending
-- has no exhibit, where both files say something.
abbrev pub IsExhibitRefusal : List ℕ → List ℕ → ℕ → Fault → Type 0
IsExhibitRefusal image schedule n (Entry place why) = IsOkAnd (run_of image schedule) (λ run. IsFirstFault (setting_of run) run.entries place why)
IsExhibitRefusal image schedule n (Exhibit fault) = IsOkAnd (run_of image schedule) (λ run. IsExhibitFault (setting_of run) run.entries n fault)
IsExhibitRefusal image schedule n fault = IsToldFault (run_of image schedule) fault
