-- What is told of a hunt or its table as JSON: its sums, and of each race its number, class, reports, addresses and bytes. Each function puts what
-- a part tells before what was told so far, so that the last stands first.
use Rattle.std.specs.Prelude.{ℕ, ◌+◌, Option, Some, None, option_map, List, [], ◌∷◌, codes, count_by, length}
use Rattle.rv_collide.specs.Counts.{saturated}
use Rattle.rv_races.specs.Classes.{class_word}
use Rattle.rv_explain.specs.RaceObject.{RaceTold, race_facts}
use Rattle.rv_hart.specs.declared.access.Access.{Access}
use Rattle.rv_shown.specs.Outcome.{Outcome}
use Rattle.rv_search.specs.Tally.{pauses}
use Rattle.rv_shown.specs.ToldOrder.{benign, bugs, is_of, of_class, reports_of, unwatched}
use Rattle.rv_object.specs.declared.sums.Sums.{Sums as SumsGiven}
use Rattle.rv_tables.specs.declared.row.Accesses.{Accesses}
use Rattle.rv_tables.specs.declared.row.RaceRow.{RaceRow}
use Rattle.rv_json.specs.Facts.{begins, counted, lists, nothing}
use Rattle.rv_json.specs.Object.{Member}
use Rattle.rv_races.specs.declared.classes.RaceClass.{RaceClass}
use Rattle.rv_races.specs.declared.classes.RaceClass.TheVariants.{Kept, Counter, Unwatched, Flag, Ordered, Atomic, Named}
use Rattle.rv_report.specs.declared.key.Key.{Key}

-- ---- sums

-- The races as they are shown, and those that are ignored; how many reports, endings and runs there are. Of a table the endings aren't known.
pub record Sums : Type 0 where
  pub races : List (Key × RaceRow)
  pub ignored : List (Key × RaceRow)
  pub reports : ℕ
  pub endings : Option ℕ
  pub runs : ℕ

abbrev pub sums_in : SumsGiven → Sums
sums_in sums = record { races = sums.races.now; ignored = sums.ignored.now; reports = sums.reports; endings = sums.endings; runs = sums.runs }

abbrev pub hunt_sums : Outcome → Sums
hunt_sums outcome = record {
  races = outcome.races;
  ignored = outcome.ignored;
  reports = saturated (outcome.saw.tally.counts.hit + outcome.saw.tally.counts.changed);
  endings = Some (saturated (pauses outcome.saw.tally));
  runs = outcome.saw.tally.runs;
}

-- of the rows of a table, of those that are ignored, and of its runs
abbrev pub table_sums : List (Key × RaceRow) → List (Key × RaceRow) → ℕ → Sums
table_sums rows ignored runs = record {
  races = rows;
  ignored = ignored;
  reports = saturated (reports_of rows + reports_of ignored);
  endings = None;
  runs = runs;
}

abbrev pub endings_facts : Option ℕ → List Member → List Member
endings_facts None facts = nothing (codes "endings") ∷ facts
endings_facts (Some endings) facts = counted (codes "endings") endings ∷ facts

-- the races that may be bugs, the likely benign ones, and those of pauses that nothing watched; the reports, the endings and the runs
abbrev pub first_sums_facts : Sums → List Member → List Member
first_sums_facts sums facts =
    counted (codes "runs") sums.runs ∷ endings_facts sums.endings (counted (codes "reports") sums.reports ∷ counted (codes "unwatched") (unwatched sums.races) ∷ counted (codes "benign") (benign sums.races) ∷ counted (codes "races") (bugs sums.races) ∷ facts)

-- how many races are of a class, and of each class
abbrev pub class_facts : List (Key × RaceRow) → RaceClass → List Member → List Member
class_facts rows class facts = counted (class_word class) (count_by (is_of class) rows) ∷ facts

abbrev pub classes_facts : List (Key × RaceRow) → List Member → List Member
classes_facts rows facts =
    class_facts rows Named (class_facts rows Atomic (class_facts rows Ordered (class_facts rows Flag (class_facts rows Unwatched (class_facts rows Counter (class_facts rows Kept (begins (codes "by_class") ∷ facts)))))))

-- how many races were counted and not shown, and their reports
abbrev pub apart_facts : List ℕ → List (Key × RaceRow) → List Member → List Member
apart_facts name rows facts = counted (codes "reports") (reports_of rows) ∷ counted (codes "races") (length rows) ∷ begins name ∷ facts

unfoldable pub sums_facts : Sums → List Member → List Member
sums_facts sums facts =
    apart_facts (codes "named") (of_class Named sums.races) (apart_facts (codes "ignored") sums.ignored (classes_facts sums.races (first_sums_facts sums (begins (codes "sums") ∷ facts))))

-- ---- races

-- the instructions of the paused hart and of the other one, by what a row keeps of the accesses; by a row that was read from a table
-- those of its key
abbrev pub paused_at : Option Accesses → Key → ℕ
paused_at None key = key.first
paused_at (Some both) key = both.paused.pc

abbrev pub other_at : Option Accesses → Key → Option ℕ
other_at None key = key.second
other_at (Some both) key = option_map (λ (access : Access). access.pc) both.other

abbrev pub paused_pc : Key × RaceRow → ℕ
paused_pc race = paused_at race.1.accesses race.0

abbrev pub other_pc : Key × RaceRow → Option ℕ
other_pc race = other_at race.1.accesses race.0

-- what is told of race K by its row
abbrev pub told_row : ℕ → Key × RaceRow → RaceTold
told_row k race = record {
  number = k;
  class = race.1.class;
  reports = race.1.count;
  address = race.1.address;
  paused = paused_pc race;
  other = other_pc race;
  before = race.1.old;
  after = race.1.new;
}

abbrev pub row_facts : ℕ → Key × RaceRow → List Member → List Member
row_facts k race facts = race_facts (told_row k race) facts

-- the races from number K on, each once and in their order
abbrev pub rows_facts_from : ℕ → List (Key × RaceRow) → List Member → List Member
rows_facts_from k [] facts = facts
rows_facts_from k (race ∷ others) facts = rows_facts_from (k + 1) others (row_facts k race facts)

abbrev pub races_facts : List (Key × RaceRow) → List Member → List Member
races_facts told facts = rows_facts_from 1 told (lists (codes "races") ∷ facts)

-- ---- the object

-- What is told of what was found, whose races are told in this order.
abbrev pub object_facts : Sums → List (Key × RaceRow) → List Member
object_facts sums told = races_facts told (sums_facts sums [])

-- The same of what a hunt came to.
abbrev pub hunt_facts : Outcome → List (Key × RaceRow) → List Member
hunt_facts outcome told = object_facts (hunt_sums outcome) told
