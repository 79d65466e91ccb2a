-- Which job a command line asks for. A word is the list of its bytes.
use Rattle.std.specs.Prelude.{ℕ, ◌-◌, ◌==◌, Bool, true, false, List, ◌∷◌, length, map, drop, take, Option, Some, None, option_map, option_and_then, codes, if◌then◌else◌}
use Rattle.std.specs.Borrow.{Bor}
use Rattle.std.specs.Str.{bytes_eq}
use Rattle.clap.specs.Words.{Row, Text, first_of, subcommand_of}
use Rattle.rv_collide.specs.Numbers.{numbers}
use Rattle.rv_collide.specs.Plan.{Numbers}
use Rattle.rv_engines.specs.Asking.{Asking, asking}
use Rattle.rv_engines.specs.Request.{Request, request}
use Rattle.rv_command.specs.ClapProgram.{is_accepted, program}
use Rattle.rv_command.specs.ExplainLine.{asking_at}
use Rattle.rv_command.specs.HuntLine.{Hunting, hunting, hunting_at}
use Rattle.rv_command.specs.MergeLine.{are_tables, expected_first, gaps_at, option_last, tables_before}
use Rattle.rv_command.specs.RunLine.{plan_at, request_at}
use Rattle.rv_command.specs.ShowLine.{Showing, showing, showing_at}
use Rattle.rv_command.specs.Values.{number_at}
use Rattle.rv_command.specs.declared.command.Job.{Job}
use Rattle.rv_command.specs.declared.command.exhibit.TheConstants.{MOST_ENDING}
use Rattle.rv_command.specs.declared.command.run.TheConstants.{MOST_SEED}
use Rattle.rv_command.specs.declared.command.Job.TheVariants as job

-- the words behind references
abbrev pub texts : List (Bor (List ℕ)) → List Text
texts words = map (λ word. word.now) words

-- a job, with its paths as texts
pub data Asked : Type 0 where
  Words : Asked
  Asm : (source image : Text) → Asked
  Listing : (image : Text) → Asked
  Replay : (image schedule : Text) → Asked
  Debug : (image schedule : Text) → Asked
  Run : (image : Text) → (wanted : Request) → (save : Option Text) → Asked
  Threads : (image : Text) → (plan : Numbers) → (seed : ℕ) → (save : Option Text) → Asked
  Exhibit : (image schedule : Text) → (number : ℕ) → Asked
  Explain : (image schedule : Text) → (wanted : Asking) → (lines picture json : Option Text) → Asked
  Gdb : (image schedule : Text) → Asked
  Hunt : (image : Text) → (wanted : Hunting) → Asked
  Merge : (tables : List Text) → (expected : Option Text) → (gaps : Bool) → Asked
  Show : (image table : Text) → (wanted : Showing) → Asked

-- what a job asks for: each of its paths in its own role
abbrev pub asked : Job → Asked
asked job.Words = Words
asked (job.Asm source image) = Asm source.0.now image.0.now
asked (job.List image) = Listing image.0.now
asked (job.Replay image schedule) = Replay image.0.now schedule.0.now
asked (job.Debug image schedule) = Debug image.0.now schedule.0.now
asked (job.Run image options save) = Run image.0.now (request options) (option_map (λ path. path.0.now) save)
asked (job.Threads image plan seed save) = Threads image.0.now (numbers plan) seed (option_map (λ path. path.0.now) save)
asked (job.Exhibit image schedule number) = Exhibit image.0.now schedule.0.now number
asked (job.Explain image schedule options lines picture json) = Explain image.0.now schedule.0.now (asking options) (option_map (λ path. path.0.now) lines) (option_map (λ path. path.0.now) picture) (option_map (λ path. path.0.now) json)
asked (job.Gdb image schedule) = Gdb image.0.now schedule.0.now
asked (job.Hunt image line) = Hunt image.0.now (hunting line)
asked (job.Merge tables expected gaps) = Merge (texts tables.0.now) (option_map (λ path. path.0.now) expected) gaps
asked (job.Show image table line) = Show image.0.now table.0.now (showing line)

-- ---- what the arguments of each command mean, in what `clap` finds

abbrev pub asm_at : List Row → Option Asked
asm_at rows = option_and_then (λ source. option_map (λ image. Asm source image) (first_of (codes "IMAGE") rows)) (first_of (codes "SOURCE") rows)

abbrev pub list_at : List Row → Option Asked
list_at rows = option_map (λ image. Listing image) (first_of (codes "IMAGE") rows)

-- IMAGE and SCHEDULE
abbrev pub saved_at : List Row → Option (Text × Text)
saved_at rows = option_and_then (λ image. option_map (λ schedule. (image, schedule)) (first_of (codes "SCHEDULE") rows)) (first_of (codes "IMAGE") rows)

abbrev pub replay : Text × Text → Asked
replay saved = Replay saved.0 saved.1

abbrev pub debug : Text × Text → Asked
debug saved = Debug saved.0 saved.1

abbrev pub gdb : Text × Text → Asked
gdb saved = Gdb saved.0 saved.1

abbrev pub exhibit_at : List Row → Option Asked
exhibit_at rows = option_and_then (λ saved. option_map (λ n. Exhibit saved.0 saved.1 n) (number_at (codes "N") 0 MOST_ENDING rows)) (saved_at rows)

abbrev pub run_at : List Row → Option Asked
run_at rows = option_and_then (λ image. option_map (λ wanted. Run image wanted (first_of (codes "save") rows)) (request_at rows)) (first_of (codes "IMAGE") rows)

abbrev pub threads_at : List Row → Option Asked
threads_at rows = option_and_then (λ image. option_and_then (λ plan. option_map (λ seed. Threads image plan seed (first_of (codes "save") rows))
    (number_at (codes "seed") 0 MOST_SEED rows)) (plan_at rows)) (first_of (codes "IMAGE") rows)

abbrev pub explain_at : List Row → Option Asked
explain_at rows = option_and_then (λ saved. option_map (λ wanted. Explain saved.0 saved.1 wanted (first_of (codes "lines") rows) (first_of (codes "picture") rows) (first_of (codes "json") rows)) (asking_at rows)) (saved_at rows)

abbrev pub hunt_at : List Row → Option Asked
hunt_at rows = option_and_then (λ image. option_map (λ wanted. Hunt image wanted) (hunting_at rows)) (first_of (codes "IMAGE") rows)

abbrev pub show_at : List Row → Option Asked
show_at rows = option_and_then (λ image. option_and_then (λ table. option_map (λ wanted. Show image table wanted) (showing_at rows)) (first_of (codes "TABLE") rows)) (first_of (codes "IMAGE") rows)

-- `merge` with the option before the tables
abbrev pub option_first : Bool → List Text → Option Asked
option_first gaps words = option_and_then (λ found. if are_tables found.1 then Some (Merge found.1 (Some found.0) gaps) else None) (expected_first words)

-- the words of `merge` but for `--gaps`: where tables come first, only the option may follow
abbrev pub merge_with : Bool → List Text → Option Asked
merge_with gaps words = if tables_before words == 0 then option_first gaps words
    else option_map (λ expected. Merge (take (tables_before words) words) expected gaps) (option_last (drop (tables_before words) words))

-- the words of `merge`, which are read as they stand; the first or the last of them may be `--gaps`
abbrev pub merge_at : List Text → Option Asked
merge_at words = if gaps_at 0 words then merge_with true (drop 1 words)
    else if gaps_at (length words - 1) words then merge_with true (take (length words - 1) words)
    else merge_with false words

-- the job of the command of this name
abbrev pub job_at : Text → List Row → Option Asked
job_at command rows =
    if bytes_eq command (codes "words") then Some Words
    else (if bytes_eq command (codes "asm") then asm_at rows
    else (if bytes_eq command (codes "list") then list_at rows
    else (if bytes_eq command (codes "replay") then option_map replay (saved_at rows)
    else (if bytes_eq command (codes "debug") then option_map debug (saved_at rows)
    else (if bytes_eq command (codes "gdb") then option_map gdb (saved_at rows)
    else (if bytes_eq command (codes "run") then run_at rows
    else (if bytes_eq command (codes "threads") then threads_at rows
    else (if bytes_eq command (codes "exhibit") then exhibit_at rows
    else (if bytes_eq command (codes "explain") then explain_at rows
    else (if bytes_eq command (codes "hunt") then hunt_at rows
    else (if bytes_eq command (codes "show") then show_at rows
    else None)))))))))))

abbrev pub found_job : Text → Text × List Row → Option Asked
found_job command found = job_at command found.1

-- the job of a line that `clap` reads: it finds no fault in the words, and each value means what its option says
abbrev pub job_by_clap : Text → List Text → Option Asked
job_by_clap command words = if is_accepted words then option_and_then (found_job command) (subcommand_of program words) else None

-- the job that a line asks for: the program's name, the command's, and the command's words
unfoldable pub job_of : List Text → Option Asked
job_of (name ∷ command ∷ rest) = if bytes_eq command (codes "merge") then merge_at rest else job_by_clap command (name ∷ command ∷ rest)
job_of _ = None
