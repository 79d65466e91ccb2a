-- Which blocks `explain` shows of two files, an image and a schedule, by its options.
use Rattle.std.specs.Prelude.{◌≡◌, ℕ, ◌==◌, Bool, false, ◌&&◌, if◌then◌else◌, IsOkAnd, Option, Some, None, Result, Ok, Err, List, [], length}
use Rattle.rv_collide.specs.Legal.{IsLegal}
use Rattle.rv_collide.specs.Stored.{Stored, setting_of}
use Rattle.rv_debug.specs.Placed.{placed}
use Rattle.rv_explain.specs.Blocks.{RaceShown}
use Rattle.rv_explain.specs.Explained.{blocks_asked}
use Rattle.rv_explain.specs.Races.{Found, Run, found, run_of as placed_run}
use Rattle.rv_json.specs.Object.{IsObject, Member}
use Rattle.rv_lines.specs.SourceLines.{SourceLine}
use Rattle.rv_markup.specs.Markup.{IsDocument}
use Rattle.rv_memory.specs.Chain.{◌>>=◌}
use Rattle.rv_engines.specs.Asking.{Asking}
use Rattle.rv_engines.specs.Campaigns.{elements, listed}
use Rattle.rv_faults.specs.CommandFault as reading
use Rattle.rv_faults.specs.CommandFault.{Refusal, Plain, NoRace, plainly, refusal}
use Rattle.rv_faults.specs.SourceFile as source
use Rattle.rv_engines.specs.declared.explain.fault.ExplainFault.{ExplainFault}
use Rattle.rv_engines.specs.declared.explain.fault.ExplainFault.TheVariants.{Command, Lines}
use Rattle.rv_faults.specs.declared.fault.Fault.{Fault}
use Rattle.rv_faults.specs.declared.fault.Fault.TheVariants as plain
use Rattle.rv_faults.specs.declared.command.CommandFault.{CommandFault}
use Rattle.rv_faults.specs.declared.command.CommandFault.TheVariants as command
use Rattle.rv_faults.specs.declared.source_lines.SourceFault.{SourceFault}
use Rattle.rv_engines.specs.Replay.{IsReplayRefusal, run_of}

-- the run that is told of
abbrev pub run_in : Stored → Run
run_in run = placed_run (placed run.image run.plan run.entries 0)

-- what there is not is refused: none of so many races has the number
abbrev pub unless_none : {A : Type 0} → ℕ → Option A → Result A Refusal
unless_none races None = Err (NoRace races)
unless_none races (Some thing) = Ok thing

-- a picture is of the first block, so where one is wanted there must be a block
abbrev pub if_drawn : Bool → List RaceShown → Result (List RaceShown) Refusal
if_drawn draws blocks = if draws && length blocks == 0 then Err (NoRace 0) else Ok blocks

-- the blocks that are shown of the races that are found in a run, or that there is no such race
abbrev pub shown_in_run : Bool → Asking → Run → Found → Result (List RaceShown) Refusal
shown_in_run draws wanted run found = unless_none (length found.races) (blocks_asked run wanted.around found.races wanted.race) >>= if_drawn draws

abbrev pub shown_in : Bool → Asking → Stored → Result (List RaceShown) Refusal
shown_in draws wanted run = listed run.image (elements wanted.named) >>= λ ranges. shown_in_run draws wanted (run_in run) (found (run_in run) ranges)

-- The blocks that the files and the options come to, or why they are refused: by a file, by the list of names, or since there is
-- no such race. `draws` says whether a picture is wanted.
unfoldable pub explain_of : Bool → Asking → List ℕ → List ℕ → Result (List RaceShown) Refusal
explain_of draws wanted image schedule = plainly (run_of image schedule) >>= shown_in draws wanted

-- a picture, which is well-formed markup, is there
pub record IsDrawn (Holds : List ℕ → Type 0) : Type 0 where
  pub drawn : List ℕ
  pub is_markup : IsDocument drawn []
  pub held : Holds drawn

-- a text is an object whose tokens read back
pub record IsAnObject (text : List ℕ) : Type 0 where
  pub facts : List Member
  pub is_object : IsObject text facts

-- such a text is there
pub record IsObjected (Holds : List ℕ → Type 0) : Type 0 where
  pub text : List ℕ
  pub is_object : IsAnObject text
  pub held : Holds text

-- the files say a run, and its schedule is legal
abbrev pub IsOfLegal : List ℕ → List ℕ → Type 0
IsOfLegal image schedule = IsOkAnd (run_of image schedule) (λ run. IsLegal (setting_of run) run.entries)

-- The refusal is the one that is told of the files: as `replay` tells it, else of what a legal schedule comes to.
abbrev pub IsExplainRefusal : Bool → Asking → List ℕ → List ℕ → Refusal → Type 0
IsExplainRefusal draws wanted image schedule (Plain fault) = IsReplayRefusal image schedule fault
IsExplainRefusal draws wanted image schedule told = IsOfLegal image schedule × (explain_of draws wanted image schedule ≡ Err told)

-- ---- with source lines

abbrev pub of_command : CommandFault → ExplainFault
of_command given = Command given

abbrev pub of_lines : SourceFault → ExplainFault
of_lines given = Lines given

abbrev pub of_fault : Fault → ExplainFault
of_fault given = Command (command.Plain given)

abbrev pub no_memory : ExplainFault
no_memory = of_fault plain.NoMemory

-- The fault is the one that is told of the files: of the image and the schedule, the names and the race; or, where the schedule is legal,
-- of the source lines.
abbrev pub IsExplainTold : Bool → Asking → List ℕ → List ℕ → Option (List ℕ) → ExplainFault → Type 0
IsExplainTold draws wanted image schedule lines (Command given) = IsExplainRefusal draws wanted image schedule (refusal given)
IsExplainTold draws wanted image schedule lines (Lines given) = IsOfLegal image schedule × source.IsTold (source.source_in lines) given

-- it is said whether the lines have no frames of any instruction of the image
abbrev pub SaysMiss : List ℕ → List ℕ → Option (List ℕ) → Bool → Type 0
SaysMiss image schedule lines misses =
    IsOkAnd (run_of image schedule) (λ (run : Stored). IsOkAnd (source.source_in lines) (λ (read : Option (List SourceLine)). misses ≡ source.lines_miss run.image read))

-- the fault is that a reader failed
abbrev pub is_read : ExplainFault → Bool
is_read (Command given) = reading.is_read (refusal given)
is_read (Lines given) = source.is_read given

-- the fault is that a writer or a file failed
abbrev pub is_write : ExplainFault → Bool
is_write (Command given) = reading.is_write (refusal given)
is_write (Lines given) = source.is_write given

-- something was refused, and the fault passes the test
abbrev pub fails_by : {A : Type 0} → (ExplainFault → Bool) → Result A ExplainFault → Bool
fails_by test (Ok a) = false
fails_by test (Err given) = test given
