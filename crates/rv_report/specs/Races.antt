-- The race table, as a function of the whole list of what was added to it.
use Rattle.std.specs.Prelude.{ℕ, ◌-◌, ◌==◌, ◌&&◌, Bool, true, false, nat_eq, not, min, max, if◌then◌else◌, Option, Some, None, is_some, option_map, List, [], ◌∷◌, map, filter, filter_map, count_by}
use Rattle.std.specs.Option.{option_eq}
use Rattle.rv_collide.specs.Counts.{saturated}
use Rattle.rv_collide.specs.declared.ending.Ending.{Ending}
use Rattle.rv_collide.specs.declared.ending.Verdict.{Verdict}
use Rattle.rv_collide.specs.declared.ending.Verdict.TheVariants.{Hit, Changed, Quiet}
use Rattle.rv_hart.specs.declared.access.Access.{Access}
use Rattle.rv_prune.specs.declared.class.Class.{Class}
use Rattle.rv_prune.specs.declared.class.Class.TheVariants.{Named, Flag, Counter, Kept}
use Rattle.rv_report.specs.declared.key.Key.{Key}
use Rattle.rv_report.specs.declared.row.Row.{Row}

-- What was added: an ending of a run, and its class.
pub record Told : Type 0 where
  pub run : ℕ
  pub ending : Ending
  pub class : Class

-- the two instructions of a hit, the lower address first; of a change the paused one alone; of a quiet ending none
abbrev pub key_of : Access → Verdict → Option Key
key_of access (Hit seen) = Some (record { first = min access.pc seen.access.pc; second = Some (max access.pc seen.access.pc) })
key_of access Changed = Some (record { first = access.pc; second = None })
key_of access Quiet = None

abbrev pub same_key : Key → Key → Bool
same_key a b = a.first == b.first && option_eq nat_eq a.second b.second

-- ---- the rows

-- A report: a kept ending that is not quiet, with its key.
pub record Report : Type 0 where
  pub key : Key
  pub run : ℕ
  pub ending : Ending

abbrev pub is_kept : Class → Bool
is_kept Kept = true
is_kept Named = false
is_kept Flag = false
is_kept Counter = false

abbrev pub with_key : Told → Key → Report
with_key t key = record { key = key; run = t.run; ending = t.ending }

abbrev pub report_of : Told → Option Report
report_of t = if is_kept t.class then option_map (with_key t) (key_of t.ending.access t.ending.verdict) else None

unfoldable pub reports : List Told → List Report
reports told = filter_map report_of told

abbrev pub has_key : Key → Report → Bool
has_key key report = same_key key report.key

-- the first report of each key, in their order
unfoldable pub firsts : List Report → List Report
firsts [] = []
firsts (report ∷ later) = report ∷ filter (λ other. not (has_key report.key other)) (firsts later)

-- the row of a report that is the first of its key: how many reports have its key, and its run and ending
abbrev pub row : List Report → Report → Key × Row
row all report = (report.key, record { count = saturated (count_by (has_key report.key) all); run = report.run; ending = report.ending })

unfoldable pub rows : List Report → List (Key × Row)
rows all = map (row all) (firsts all)

-- ---- the endings that were pruned

abbrev pub is_named : Class → Bool
is_named Named = true
is_named Flag = false
is_named Counter = false
is_named Kept = false

abbrev pub is_flag : Class → Bool
is_flag Named = false
is_flag Flag = true
is_flag Counter = false
is_flag Kept = false

abbrev pub is_counter : Class → Bool
is_counter Named = false
is_counter Flag = false
is_counter Counter = true
is_counter Kept = false

-- how many endings of a class were not quiet
unfoldable pub pruned : (Class → Bool) → List Told → ℕ
pruned is_class told = saturated (count_by (λ (t : Told). is_class t.class && is_some (key_of t.ending.access t.ending.verdict)) told)

-- ---- the table

pub record Table : Type 0 where
  pub rows : List (Key × Row)
  pub named : ℕ
  pub flag : ℕ
  pub counter : ℕ

unfoldable pub races : List Told → Table
races told = record {
  rows = rows (reports told);
  named = pruned is_named told;
  flag = pruned is_flag told;
  counter = pruned is_counter told;
}
