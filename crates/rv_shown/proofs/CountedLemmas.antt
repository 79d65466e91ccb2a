-- The counts of the rows of tables that reports are added to.
use Rattle.std.proofs.Common.{◌≡◌, ℕ, suc, zero, ◌+◌, ◌≤◌, ◌<◌, ◌^◌, Bool, true, false, cond, not, ◌&&◌, Option, Some, None, is_some, List, [], ◌∷◌, ◌++◌, All, filter_map, length, length-append, map, refl, sym, ap, ◌∙◌, rules, arith}
use Rattle.std.specs.Prelude.{◌==◌, nat_eq, sum_by}
use Rattle.std.specs.List.{fold}
use Rattle.std.specs.Option.{option_eq, option_map_or}
use Rattle.std.specs.Cmp.{IsEquivalence}
use Rattle.std.specs.Cmp.Rules.{comparing}
use Rattle.std.proofs.lemmas.Bool.{and_parts}
use Rattle.std.proofs.lemmas.List.Sums.{sum_by-append, sum_by-cons}
use Rattle.rv_collide.specs.Counts.{saturated}
use Rattle.rv_shown.proofs.SumLemmas.{sum_filter_map, sum_map}
use Rattle.rv_tables.specs.Changed as changed
use Rattle.rv_search.specs.Hunted.{changed_from, changed_rows, rows_from, rows_of}
use Rattle.rv_tables.specs.Keyed.{added_by}
use Rattle.rv_tables.specs.Rows.{joined, row_of, table_of}
use Rattle.rv_shown.specs.ShownOnce.{count_of}
use Rattle.rv_tables.specs.ShownRows.{is_of_two}
use Rattle.rv_tables.specs.declared.changed.ChangedKey.{ChangedKey}
use Rattle.rv_search.specs.declared.kept_run.KeptRun.{KeptRun}
use Rattle.rv_tables.specs.declared.row.PartReport.{PartReport}
use Rattle.rv_tables.specs.declared.row.RaceRow.{RaceRow}
use Rattle.rv_report.specs.Races.{same_key}
use Rattle.rv_report.specs.declared.key.Key.{Key}

pub same_key_equiv : IsEquivalence same_key
same_key_equiv = search (comparing, rules)

abbrev pub Row : Type 0
Row = Key × RaceRow

abbrev pub ChangedRow : Type 0
ChangedRow = ChangedKey × RaceRow

-- ---- rows with keys that are added to a table

module _ {K : Type 0} (same : K → K → Bool) where
  -- the count of a row whose key passes
  abbrev pub weigh : (K → Bool) → K × RaceRow → ℕ
  weigh p e = cond (p e.0) e.1.count 0

  abbrev pub all : K → Bool
  all key = true

  joined_weight : (a b : Bool) (x y : ℕ) → a ≡ b → x + y < 2 ^ 64 → cond a (saturated (x + y)) 0 ≡ cond a x 0 + cond b y 0
  joined_weight true true x y is few = omega (arith, few)
  joined_weight false false x y is few = refl
  joined_weight true false x y is few = absurd cc
  joined_weight false true x y is few = absurd cc

  module _ (p : K → Bool) (respects : (a b : K) → same a b ≡ true → p a ≡ p b) where
    added_step : (e row : K × RaceRow) (es : List (K × RaceRow)) (b : Bool) → same row.0 e.0 ≡ b → e.1.count + row.1.count < 2 ^ 64 → sum_by (weigh p) (added_by same joined es row) ≡ sum_by (weigh p) es + weigh p row
        → sum_by (weigh p) (added_by same joined (e ∷ es) row) ≡ sum_by (weigh p) (e ∷ es) + weigh p row
    added_step e row es true is few later =
        let one = sum_by-cons (weigh p) (e.0, joined e.1 row.1) es in
        let other = sum_by-cons (weigh p) e es in
        let both = joined_weight (p e.0) (p row.0) e.1.count row.1.count (sym (respects row.0 e.0 is)) few in
        rw is (omega (arith, one, other, both))
    added_step e row es false is few later =
        let one = sum_by-cons (weigh p) e (added_by same joined es row) in
        let other = sum_by-cons (weigh p) e es in
        rw is (omega (arith, one, other, later))

    added_sum : (es : List (K × RaceRow)) (row : K × RaceRow) → sum_by (weigh all) es + row.1.count < 2 ^ 64 → sum_by (weigh p) (added_by same joined es row) ≡ sum_by (weigh p) es + weigh p row
    added_sum [] row few = refl
    added_sum (e ∷ es) row few =
        let whole = sum_by-cons (weigh all) e es in
        added_step e row es (same row.0 e.0) refl (omega (arith, few, whole)) (added_sum es row (omega (arith, few, whole)))

  module _ (p : K → Bool) (respects : (a b : K) → same a b ≡ true → p a ≡ p b) where
    fold_sum : (rows es : List (K × RaceRow)) → sum_by (weigh all) es + sum_by (weigh all) rows < 2 ^ 64 → sum_by (weigh p) (fold (added_by same joined) es rows) ≡ sum_by (weigh p) es + sum_by (weigh p) rows
    fold_sum [] es few = omega arith
    fold_sum (row ∷ rows) es few =
        let whole = sum_by-cons (weigh all) row rows in
        let part = sum_by-cons (weigh p) row rows in
        let next : sum_by (weigh all) (added_by same joined es row) ≡ sum_by (weigh all) es + row.1.count = added_sum all (λ a b is. refl) es row (omega (arith, few, whole)) in
        let here = added_sum p respects es row (omega (arith, few, whole)) in
        let later = fold_sum rows (added_by same joined es row) (omega (arith, few, whole, next)) in
        omega (arith, part, here, later)

    pub table_sum : (rows : List (K × RaceRow)) → sum_by (weigh all) rows < 2 ^ 64 → sum_by (weigh p) (fold (added_by same joined) [] rows) ≡ sum_by (weigh p) rows
    table_sum rows few = fold_sum rows [] (omega (arith, few)) ∙ omega arith

-- ---- the reports of one race

-- the count of a row of that race
abbrev pub of_key : Key → Row → ℕ
of_key key = weigh same_key (λ other. same_key other key)

-- the count of changed reports of that race
abbrev pub of_own : Key → ChangedRow → ℕ
of_own key = weigh changed.same_changed (λ other. same_key other.own key)

seconds_differ : (a b : Option ℕ) → is_some a ≡ not (is_some b) → option_eq nat_eq a b ≡ false
seconds_differ None None is = absurd cc
seconds_differ None (Some y) is = refl
seconds_differ (Some x) None is = refl
seconds_differ (Some x) (Some y) is = absurd cc

and_false : (a b : Bool) → b ≡ false → (a && b) ≡ false
and_false true b is = is
and_false false b is = refl

-- a race of two instructions is none of one
pub keys_differ : (a b : Key) → is_of_two a ≡ not (is_of_two b) → same_key a b ≡ false
keys_differ a b is = and_false (a.first == b.first) (option_eq nat_eq a.second b.second) (seconds_differ a.second b.second is)

item_two : (own key : Key) (n : ℕ) (b : Bool) → is_of_two key ≡ b → is_of_two own ≡ true → 0 ≡ cond b 0 (cond (same_key own key) n 0)
item_two own key n true is two = refl
item_two own key n false is two = rw (keys_differ own key (two ∙ sym (ap not is))) refl

item_one : (own key : Key) (n : ℕ) (b : Bool) → is_of_two key ≡ b → is_of_two own ≡ false → cond (same_key own key) n 0 ≡ cond b 0 (cond (same_key own key) n 0)
item_one own key n true is one = rw (keys_differ own key (one ∙ sym (ap not is))) refl
item_one own key n false is one = refl

item_step : (key own pair : Key) (row : RaceRow) (b : Bool) → is_of_two own ≡ b → option_map_or (of_own key) (cond b None (Some (record { own = own; pair = pair }, row))) 0 ≡ cond (is_of_two key) 0 (of_key key (own, row))
item_step key own pair row true is = item_two own key row.count (is_of_two key) refl is
item_step key own pair row false is = item_one own key row.count (is_of_two key) refl is

item : (key : Key) (run : ℕ) (it : PartReport) → option_map_or (of_own key) (changed.row_if run it) 0 ≡ cond (is_of_two key) 0 (of_key key (row_of run it))
item key run it = item_step key it.report.key (changed.pair_of it.report) (row_of run it).1 (is_of_two it.report.key) refl

cond_sum : (b : Bool) (x y : ℕ) → cond b 0 x + cond b 0 y ≡ cond b 0 (x + y)
cond_sum true x y = refl
cond_sum false x y = refl

cond_none : {n m : ℕ} (b : Bool) → n ≡ 0 → m ≡ 0 → n ≡ cond b 0 m
cond_none true first second = first
cond_none false first second = first ∙ sym second

items : (key : Key) (run : ℕ) (its : List PartReport) → sum_by (of_own key) (filter_map (changed.row_if run) its) ≡ cond (is_of_two key) 0 (sum_by (of_key key) (map (row_of run) its))
items key run [] = cond_none (is_of_two key) refl refl
items key run (it ∷ its) =
    sum_filter_map (changed.row_if run) (of_own key) (it ∷ its)
    ∙ sum_by-cons (λ i. option_map_or (of_own key) (changed.row_if run i) 0) it its
    ∙ ap (λ n. n + sum_by (λ i. option_map_or (of_own key) (changed.row_if run i) 0) its) (item key run it)
    ∙ ap (λ n. cond (is_of_two key) 0 (of_key key (row_of run it)) + n) (sym (sum_filter_map (changed.row_if run) (of_own key) its) ∙ items key run its)
    ∙ cond_sum (is_of_two key) (of_key key (row_of run it)) (sum_by (of_key key) (map (row_of run) its))
    ∙ ap (cond (is_of_two key) 0) (sym (sum_by-cons (of_key key) (row_of run it) (map (row_of run) its)))

-- the changed reports of a race of one instruction are all its reports
pub own_reports : (key : Key) (first : ℕ) (runs : List KeptRun) → sum_by (of_own key) (changed_from first runs) ≡ cond (is_of_two key) 0 (sum_by (of_key key) (rows_from first runs))
unfolding changed_from rows_from
own_reports key first [] = cond_none (is_of_two key) refl refl
own_reports key first (kept ∷ later) =
    sum_by-append (of_own key) (changed_rows first kept) (changed_from (first + 1) later)
    ∙ ap (λ n. n + sum_by (of_own key) (changed_from (first + 1) later)) (items key first kept.reports.items)
    ∙ ap (λ n. cond (is_of_two key) 0 (sum_by (of_key key) (rows_of first kept)) + n) (own_reports key (first + 1) later)
    ∙ cond_sum (is_of_two key) (sum_by (of_key key) (rows_of first kept)) (sum_by (of_key key) (rows_from (first + 1) later))
    ∙ ap (cond (is_of_two key) 0) (sym (sum_by-append (of_key key) (rows_of first kept) (rows_from (first + 1) later)))

-- ---- how many there are

each_one : (run : ℕ) (its : List PartReport) → sum_by count_of (map (row_of run) its) ≡ length (map (row_of run) its)
each_one run [] = refl
each_one run (it ∷ its) =
    let one = sum_by-cons count_of (row_of run it) (map (row_of run) its) in
    let later = each_one run its in
    omega (arith, one, later)

pub all_reports : (first : ℕ) (runs : List KeptRun) → sum_by count_of (rows_from first runs) ≡ length (rows_from first runs)
unfolding rows_from
all_reports first [] = refl
all_reports first (kept ∷ later) =
    let here = each_one first kept.reports.items in
    let behind = all_reports (first + 1) later in
    let sums = sum_by-append count_of (rows_of first kept) (rows_from (first + 1) later) in
    let lengths = length-append (rows_of first kept) (rows_from (first + 1) later) in
    omega (arith, here, behind, sums, lengths)

abbrev pub changed_count : ChangedRow → ℕ
changed_count row = row.1.count

few_step : (b : Bool) (row : ChangedRow) → row.1.count ≡ 1 → option_map_or changed_count (cond b None (Some row)) 0 ≤ 1
few_step true row is = omega arith
few_step false row is = omega (arith, is)

few_items : (run : ℕ) (its : List PartReport) → sum_by changed_count (filter_map (changed.row_if run) its) ≤ length (map (row_of run) its)
few_items run [] = omega arith
few_items run (it ∷ its) =
    let one = sum_filter_map (changed.row_if run) changed_count (it ∷ its) in
    let next = sum_by-cons (λ i. option_map_or changed_count (changed.row_if run i) 0) it its in
    let back = sum_filter_map (changed.row_if run) changed_count its in
    let here = few_step (is_of_two it.report.key) (changed.key_for it.report, (row_of run it).1) refl in
    let later = few_items run its in
    omega (arith, one, next, back, here, later)

-- there are no more changed reports than reports
pub few_changed : (first : ℕ) (runs : List KeptRun) → sum_by changed_count (changed_from first runs) ≤ length (rows_from first runs)
unfolding rows_from changed_from
few_changed first [] = omega arith
few_changed first (kept ∷ later) =
    let here = few_items first kept.reports.items in
    let behind = few_changed (first + 1) later in
    let sums = sum_by-append changed_count (changed_rows first kept) (changed_from (first + 1) later) in
    let lengths = length-append (rows_of first kept) (rows_from (first + 1) later) in
    omega (arith, here, behind, sums, lengths)

-- ---- in tables

by_key : (key a b : Key) → same_key a b ≡ true → same_key a key ≡ same_key b key
by_key key a b same = same_key_equiv.congr a b key same

by_own : (key : Key) (a b : ChangedKey) → changed.same_changed a b ≡ true → same_key a.own key ≡ same_key b.own key
by_own key a b same = same_key_equiv.congr a.own b.own key (and_parts (same_key a.own b.own) (same_key a.pair b.pair) same).0

-- The changed rows of a race of one instruction count what its row in the table does; of a race of two there is none.
pub own_counts : (key : Key) (first : ℕ) (runs : List KeptRun) → length (rows_from first runs) < 2 ^ 63
    → sum_by (of_own key) (changed.changed_of (changed_from first runs)) ≡ cond (is_of_two key) 0 (sum_by (of_key key) (table_of (rows_from first runs)))
unfolding table_of changed.changed_of
own_counts key first runs few =
    let count = all_reports first runs in
    let less = few_changed first runs in
    table_sum changed.same_changed (λ other. same_key other.own key) (by_own key) (changed_from first runs) (omega (arith, few, less))
    ∙ own_reports key first runs
    ∙ ap (cond (is_of_two key) 0) (sym (table_sum same_key (λ other. same_key other key) (by_key key) (rows_from first runs) (omega (arith, few, count))))

pub table_count : (first : ℕ) (runs : List KeptRun) → length (rows_from first runs) < 2 ^ 63 → sum_by count_of (table_of (rows_from first runs)) ≡ length (rows_from first runs)
unfolding table_of
table_count first runs few =
    let count = all_reports first runs in
    table_sum same_key (all same_key) (λ a b is. refl) (rows_from first runs) (omega (arith, few, count)) ∙ count
