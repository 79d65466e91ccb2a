-- What `replay` writes of two files, an image and a schedule.
use Rattle.std.specs.Prelude.{◌≡◌, ℕ, Option, Some, IfSome, Result, Ok, Err, IsOkAnd, List, ◌++◌, length}
use Rattle.rv_collide.specs.Legal.{IsLegal}
use Rattle.rv_collide.specs.ScheduleRead.{schedule_of}
use Rattle.rv_collide.specs.Replays.{IsFirstFault}
use Rattle.rv_collide.specs.StateAt.{state_at}
use Rattle.rv_collide.specs.Stored.{Stored, setting_of, stored}
use Rattle.rv_collide.specs.Texts.{endings_text}
use Rattle.rv_collide.specs.Verdict.{endings}
use Rattle.rv_collide.specs.declared.schedule.fault.ScheduleFault.{ScheduleFault}
use Rattle.rv_hart.specs.State.{State}
use Rattle.rv_hart.specs.Texts.{state_text}
use Rattle.rv_memory.specs.Chain.{◌>>=◌}
use Rattle.rv_faults.specs.Fault.{IsToldFault}
use Rattle.rv_engines.specs.Images.{image_of}
use Rattle.rv_faults.specs.declared.fault.Fault.{Fault}
use Rattle.rv_faults.specs.declared.fault.Fault.TheVariants.{Schedule, Entry}

-- ---- what the files say

abbrev pub told_schedule : {A : Type 0} → Result A ScheduleFault → Result A Fault
told_schedule (Ok said) = Ok said
told_schedule (Err fault) = Err (Schedule fault)

-- The image, the plan and the entries that two files say, or why they are refused: by the image's bytes, and
-- else by the first line of the schedule's that has a fault.
unfoldable pub run_of : List ℕ → List ℕ → Result Stored Fault
run_of image schedule = do
  contents ← image_of image
  said ← told_schedule (schedule_of schedule)
  Ok (stored contents said.numbers said.entries)

-- ---- what is written

-- the endings of a run's pauses, and the harts and the output of the state at its end
abbrev pub run_text : Stored → State → List ℕ
run_text run end = endings_text (endings (setting_of run).start run.entries) ++ state_text end

-- The entries of a run are legal, and this is written of it.
pub record IsShown (run : Stored) (Writes : List ℕ → Type 0) : Type 0 where
  pub legal : IsLegal (setting_of run) run.entries
  pub end : State
  pub reached : state_at (setting_of run).start run.entries (length run.entries) ≡ Some end
  pub written : Writes (run_text run end)

-- The fault is the one that is told of two files: the first entry that is not what a call would add, where both
-- files say something.
abbrev pub IsReplayRefusal : List ℕ → List ℕ → Fault → Type 0
IsReplayRefusal image schedule (Entry place why) = IsOkAnd (run_of image schedule) (λ run. IsFirstFault (setting_of run) run.entries place why)
IsReplayRefusal image schedule fault = IsToldFault (run_of image schedule) fault

-- a fact of both files, where their bytes are known
abbrev pub IfKnown : Option (List ℕ) → Option (List ℕ) → (List ℕ → List ℕ → Type 0) → Type 0
IfKnown image schedule Fact = IfSome image (λ bytes. IfSome schedule (Fact bytes))
