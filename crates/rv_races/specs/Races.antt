-- The races of a run: its reports race by race, and the one that each race is told by.
use Rattle.std.specs.Prelude.{◌≡◌, ℕ, ◌+◌, Bool, nat_lt, if◌then◌else◌, Option, option_and_then, option_map, Some, List, map, [], ◌∷◌, length, slice_get, filter_map}
use Rattle.std.specs.List.{fold, range_with_len}
use Rattle.rv_collide.specs.Counts.{saturated}
use Rattle.rv_collide.specs.Verdict.{endings}
use Rattle.rv_elf.specs.Contents.{Contents}
use Rattle.rv_races.specs.Classes.{class_of, rank}
use Rattle.rv_races.specs.Judged.{judged}
use Rattle.rv_races.specs.declared.judged.Judged.{Judged}
use Rattle.rv_races.specs.declared.races.Race.{Race}
use Rattle.rv_races.specs.declared.races.Report.{Report}
use Rattle.rv_races.specs.declared.races.RunRaces.{RunRaces}
use Rattle.rv_report.specs.Races.{key_of, same_key}
use Rattle.rv_report.specs.declared.key.Key.{Key}
pub use Rattle.rv_races.specs.Run.{Run, run_of}

-- ---- reports

abbrev pub with_key : Contents → List (ℕ × ℕ) → ℕ → Judged → Key → Report
with_key image ranges n one key = record { number = n; key = key; class = class_of image ranges one; ending = one.ending; judged = one.verdict }

-- Ending n is a report where it is no quiet one. The ranges are those of the listed names.
abbrev pub report_of : Contents → List (ℕ × ℕ) → ℕ → Judged → Option Report
report_of image ranges n one = option_map (with_key image ranges n one) (key_of one.ending.access one.ending.verdict)

abbrev pub report_at : Contents → List (ℕ × ℕ) → List Judged → ℕ → Option Report
report_at image ranges ended n = option_and_then (report_of image ranges n) (slice_get ended n)

-- the reports among the first so many endings, each with what it is judged by
unfoldable pub reports_of : Contents → List (ℕ × ℕ) → List Judged → ℕ → List Report
reports_of image ranges ended count = filter_map (report_at image ranges ended) (range_with_len 0 count)

-- ---- races

-- of two reports of a race the one that it is told by: the later only where its class is the stronger
abbrev pub told_by : Report → Report → Report
told_by first later = if nat_lt (rank later.class) (rank first.class) then later else first

-- a race that has one report more
abbrev pub raised : Race → Report → Race
raised race report = record { reports = saturated (race.reports + 1); told = told_by race.told report }

-- The race table would have both in one row: the instructions are the same. (Their classes may differ.)
abbrev pub is_of : Report → Race → Bool
is_of report race = same_key race.told.key report.key

-- A report is one more of its race, or the first of a new one, which comes last.
abbrev pub with_report : List Race → Report → List Race
with_report [] report = record { reports = 1; told = report } ∷ []
with_report (race ∷ others) report = if is_of report race then raised race report ∷ others else race ∷ with_report others report

-- the races of reports, in the order of their first ones
unfoldable pub races_of : List Report → List Race
races_of reports = fold with_report [] reports

-- ---- of a run

-- its endings, each with what it is judged by
unfoldable pub judged_endings : Run → List Judged
judged_endings run = map (judged run) (endings run.start run.entries)

unfoldable pub reports : Run → List (ℕ × ℕ) → List Report
reports run ranges = reports_of run.image ranges (judged_endings run) (length (judged_endings run))

unfoldable pub races : Run → List (ℕ × ℕ) → List Race
races run ranges = races_of (reports run ranges)

-- The races of a run, and how many reports and endings it has.
pub record Found : Type 0 where
  pub races : List Race
  pub reports : ℕ
  pub endings : ℕ

unfoldable pub found : Run → List (ℕ × ℕ) → Found
found run ranges = record {
  races = races run ranges;
  reports = length (reports run ranges);
  endings = length (endings run.start run.entries);
}

abbrev pub found_of : RunRaces → Found
found_of r = record { races = r.races.items; reports = r.reports; endings = r.endings }

-- each of the races is told by an ending of the run
abbrev pub AreTold : Run → List Race → Type 0
AreTold run races =
    (place : ℕ) (race : Race) → slice_get races place ≡ Some race → slice_get (endings run.start run.entries) race.told.number ≡ Some race.told.ending
