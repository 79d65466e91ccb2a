-- The races of a hunt as they are shown count together what the rows count that are told.
use Rattle.std.proofs.Common.{◌≡◌, ℕ, suc, zero, ◌+◌, ◌≤◌, ◌<◌, ◌^◌, Bool, true, false, cond, not, ◌&&◌, ◌||◌, Option, Some, None, is_some, List, [], ◌∷◌, All, filter, filter_map, length, map, refl, sym, ap, ◌∙◌, arith}
use Rattle.std.specs.Prelude.{get_or, option_map, sum_by}
use Rattle.std.specs.List.{fold, list_any}
use Rattle.std.specs.Option.{option_map_or}
use Rattle.std.proofs.lemmas.Bool.{or_parts}
use Rattle.std.proofs.lemmas.List.Elements.{All-cons, All-filter, All-head, All-nil, All-tail}
use Rattle.std.proofs.lemmas.List.Filters.{sum_by-filter_both}
use Rattle.std.proofs.lemmas.List.Sums.{get_or-le-sum_by, sum_by-cons}
use Rattle.rv_collide.specs.Counts.{saturated}
use Rattle.rv_elf.specs.Contents.{Contents}
use Rattle.rv_explain.specs.Naming.{Naming}
use Rattle.rv_shown.proofs.CountedLemmas.{ChangedRow, Row, keys_differ, same_key_equiv, of_key, of_own, own_counts, table_count}
use Rattle.rv_tables.specs.HuntLaws.{AreApart, RacesAreApart}
use Rattle.rv_shown.proofs.ShownLemmas.{each_is_shown_once, twice}
use Rattle.rv_shown.proofs.SumLemmas.{sum_both, sum_each, sum_filter, sum_filter_map, sum_map, sum_none}
use Rattle.rv_tables.specs.Changed.{changed_of}
use Rattle.rv_search.specs.Hunted.{changed_from, rows_from, seen_in}
use Rattle.rv_tables.specs.Rows.{added, has_race, table_of}
use Rattle.rv_shown.specs.ShownOnce.{EachIsCountedOnce, count_of}
use Rattle.rv_tables.specs.ShownRows.{has_moved, has_pair, is_counted, is_of_two, joined_first, left, moves, place, placed, race_of, raised, shown_row, shown_rows, with_race}
use Rattle.rv_shown.specs.ToldOrder.{AreInOrder, of_class}
use Rattle.rv_tables.specs.declared.changed.ChangedKey.{ChangedKey}
use Rattle.rv_search.specs.declared.hunted.Hunted.{Hunted}
use Rattle.rv_search.specs.declared.kept_run.KeptRun.{KeptRun}
use Rattle.rv_tables.specs.declared.merge.ignore.Line.{Line}
use Rattle.rv_tables.specs.declared.orders.OrderRow.{OrderRow}
use Rattle.rv_tables.specs.declared.row.RaceRow.{RaceRow}
use Rattle.rv_tables.specs.declared.shown_rows.Placed.{Placed}
use Rattle.rv_tables.specs.merge.Ignore.{is_ignored, is_told}
use Rattle.rv_races.specs.declared.classes.RaceClass.TheVariants.{Named}
use Rattle.rv_report.specs.Races.{same_key}
use Rattle.rv_report.specs.declared.key.Key.{Key}

never : {P : Type 0} → false ≡ true → P
never h = cc

-- ---- a race of a table has one row

or_true : (a b : Bool) → b ≡ true → (a || b) ≡ true
or_true true b is = refl
or_true false b is = is

or_first : (a b : Bool) → a ≡ true → (a || b) ≡ true
or_first true b is = refl
or_first false b is = never is

none_of : (key : Key) (rows : List Row) → has_race key rows ≡ false → sum_by (of_key key) rows ≡ 0
none_of key [] none = refl
none_of key (e ∷ es) none =
    let both = or_parts (same_key key e.0) (has_race key es) none in
    let differ : same_key e.0 key ≡ false = same_key_equiv.symm e.0 key ∙ both.0 in
    let one = sum_by-cons (of_key key) e es in
    let here : of_key key e ≡ 0 = rw differ refl in
    let later = none_of key es both.1 in
    omega (arith, one, here, later)

-- the rows count for the race of each of these what it counts itself
abbrev AreAlone : List Row → Row → Type 0
AreAlone rows row = sum_by (of_key row.0) rows ≡ row.1.count

later_alone : (e : Row) (es those : List Row) → has_race e.0 those ≡ false → All (AreAlone es) those → All (AreAlone (e ∷ es)) those
later_alone e es [] none h = All-nil (AreAlone (e ∷ es))
later_alone e es (row ∷ those) none h =
    let both = or_parts (same_key e.0 row.0) (has_race e.0 those) none in
    let one = sum_by-cons (of_key row.0) e es in
    let here : of_key row.0 e ≡ 0 = rw both.0 refl in
    let before : sum_by (of_key row.0) es ≡ row.1.count = All-head (AreAlone es) row those h in
    All-cons (AreAlone (e ∷ es)) row those (omega (arith, one, here, before)) (later_alone e es those both.1 (All-tail (AreAlone es) row those h))

alone : (rows : List Row) → AreApart rows → All (AreAlone rows) rows
alone [] apart = All-nil (AreAlone [])
alone (e ∷ es) apart =
    let one = sum_by-cons (of_key e.0) e es in
    let here : of_key e.0 e ≡ e.1.count = rw (same_key_equiv.refl e.0) refl in
    let none = none_of e.0 es apart.0 in
    All-cons (AreAlone (e ∷ es)) e es (omega (arith, one, here, none)) (later_alone e es es apart.0 (alone es apart.1))

more_has : (e : Row) (es those : List Row) → All (λ row. has_race row.0 es ≡ true) those → All (λ row. has_race row.0 (e ∷ es) ≡ true) those
more_has e es [] h = All-nil (λ row. has_race row.0 (e ∷ es) ≡ true)
more_has e es (row ∷ those) h =
    All-cons (λ one. has_race one.0 (e ∷ es) ≡ true) row those (or_true (same_key row.0 e.0) (has_race row.0 es) (All-head (λ one. has_race one.0 es ≡ true) row those h))
    (more_has e es those (All-tail (λ one. has_race one.0 es ≡ true) row those h))

all_have : (rows : List Row) → All (λ row. has_race row.0 rows ≡ true) rows
all_have [] = All-nil (λ row. has_race row.0 [] ≡ true)
all_have (e ∷ es) =
    All-cons (λ row. has_race row.0 (e ∷ es) ≡ true) e es (or_first (same_key e.0 e.0) (has_race e.0 es) (same_key_equiv.refl e.0)) (more_has e es es (all_have es))

has_alike : (key other : Key) (rows : List Row) → same_key key other ≡ true → has_race other rows ≡ true → has_race key rows ≡ true
has_alike key other [] same has = never has
has_alike key other (e ∷ es) same has = by (same_key other e.0) (has_race other es) (same_key_equiv.congr key other e.0 same) (has_alike key other es same) has
  where
    by : (a b : Bool) → same_key key e.0 ≡ a → (b ≡ true → has_race key es ≡ true) → (a || b) ≡ true → (same_key key e.0 || has_race key es) ≡ true
    by true b is later h = or_first (same_key key e.0) (has_race key es) is
    by false b is later h = or_true (same_key key e.0) (has_race key es) (later h)

lacks_step : (p : Row → Bool) (key : Key) (row : Row) (rows : List Row) (b : Bool) → (same_key key row.0 ≡ false) × (has_race key rows ≡ false) → has_race key (filter p rows) ≡ false → has_race key (cond b (row ∷ filter p rows) (filter p rows)) ≡ false
lacks_step p key row rows true both later = rw both.0 later
lacks_step p key row rows false both later = later

lacks : (p : Row → Bool) (key : Key) (rows : List Row) → has_race key rows ≡ false → has_race key (filter p rows) ≡ false
lacks p key [] none = refl
lacks p key (row ∷ rows) none =
    let both = or_parts (same_key key row.0) (has_race key rows) none in
    lacks_step p key row rows (p row) both (lacks p key rows both.1)

apart_step : (p : Row → Bool) (e : Row) (es : List Row) (b : Bool) → has_race e.0 (filter p es) ≡ false → AreApart (filter p es) → AreApart (cond b (e ∷ filter p es) (filter p es))
apart_step p e es true none later = (none, later)
apart_step p e es false none later = later

pub apart-filter : (p : Row → Bool) (rows : List Row) → AreApart rows → AreApart (filter p rows)
apart-filter p [] apart = tt
apart-filter p (e ∷ es) apart = apart_step p e es (p e) (lacks p e.0 es apart.0) (apart-filter p es apart.1)

-- ---- what is counted for each row, and for all of them

either_has : (a b : Bool) (n : ℕ) → (a ≡ true → b ≡ false) → cond a n 0 + cond b n 0 ≡ cond (a || b) n 0
either_has true b n apart = rw (apart refl) (omega arith)
either_has false b n apart = omega arith

none_alike : (key other : Key) (es : List Row) → same_key key other ≡ true → has_race other es ≡ false → has_race key es ≡ false
none_alike key other [] same none = refl
none_alike key other (e ∷ es) same none =
    let both = or_parts (same_key other e.0) (has_race other es) none in
    let differ : same_key key e.0 ≡ false = same_key_equiv.congr key other e.0 same ∙ both.0 in
    rw differ (none_alike key other es same both.1)

pub for_each : {C : Type 0} (race : C → Key) (weight : C → ℕ) (cs : List C) (rows : List Row) → AreApart rows → sum_by (λ (row : Row). sum_by (λ c. cond (same_key (race c) row.0) (weight c) 0) cs) rows ≡ sum_by (λ c. cond (has_race (race c) rows) (weight c) 0) cs
for_each race weight cs [] apart = sym (sum_none (λ c. cond (has_race (race c) []) (weight c) 0) (λ c. refl) cs)
for_each race weight cs (e ∷ es) apart =
    let one = sum_by-cons (λ (row : Row). sum_by (λ c. cond (same_key (race c) row.0) (weight c) 0) cs) e es in
    let later = for_each race weight cs es apart.1 in
    let both = sum_both (λ c. cond (same_key (race c) e.0) (weight c) 0) (λ c. cond (has_race (race c) es) (weight c) 0) (λ c. cond (has_race (race c) (e ∷ es)) (weight c) 0)
    (λ c. either_has (same_key (race c) e.0) (has_race (race c) es) (weight c) (λ same. none_alike (race c) e.0 es same apart.0)) cs in
    omega (arith, one, later, both)

-- ---- changed reports, each where it is shown

abbrev placed_count : Placed → ℕ
placed_count one = one.row.count

-- the count of those that are shown with a race, and of those whose own it is
abbrev with_key : Key → Placed → ℕ
with_key key one = cond (same_key one.race key) one.row.count 0

abbrev own_key : Key → Placed → ℕ
own_key key one = cond (same_key one.own key) one.row.count 0

and_first : (a b : Bool) → (a && b) ≡ true → a ≡ true
and_first true b h = refl
and_first false b h = never h

and_second : (a b : Bool) → (a && b) ≡ true → b ≡ true
and_second true b h = h
and_second false b h = never h

race_has : (told : List Row) (key : ChangedKey) (b : Bool) → has_pair told key ≡ b → has_race key.own told ≡ true → has_race (cond b key.pair key.own) told ≡ true
race_has told key true is own = and_second (is_of_two key.pair) (has_race key.pair told) is
race_has told key false is own = own

-- each is shown with a race that is told
abbrev IsToldOf : List Row → Placed → Type 0
IsToldOf told one = has_race one.race told ≡ true

told_step : (told : List Row) (c : ChangedRow) (cs : List ChangedRow) (b : Bool) → is_counted told c ≡ b → All (IsToldOf told) (map (place told) cs) → All (IsToldOf told) (map (place told) (cond b (c ∷ cs) cs))
told_step told c cs true is later = All-cons (IsToldOf told) (place told c) (map (place told) cs) (race_has told c.0 (has_pair told c.0) refl is) later
told_step told c cs false is later = later

all_told : (told : List Row) (cs : List ChangedRow) → All (IsToldOf told) (placed told cs)
all_told told [] = All-nil (IsToldOf told)
all_told told (c ∷ cs) = told_step told c (filter (is_counted told) cs) (is_counted told c) refl (all_told told cs)

cond_true : (b : Bool) (n : ℕ) → b ≡ true → cond b n 0 ≡ n
cond_true true n is = refl
cond_true false n is = never is

-- the rows that are told have together all of them
all_placed : (told : List Row) (cs : List ChangedRow) → AreApart told → sum_by (λ (row : Row). sum_by (with_key row.0) (placed told cs)) told ≡ sum_by placed_count (placed told cs)
all_placed told cs apart =
    for_each (λ (one : Placed). one.race) placed_count (placed told cs) told apart
    ∙ sum_each (λ (one : Placed). cond (has_race one.race told) one.row.count 0) placed_count (placed told cs)
    (λ k d lt. cond_true (has_race (get_or (placed told cs) k d).race told) (get_or (placed told cs) k d).row.count (all_told told cs k d lt))

-- whether by the places or by the changed rows, the races that are told have the same reports of their own
all_own : (told : List Row) (cs : List ChangedRow) → AreApart told → sum_by placed_count (placed told cs) ≡ sum_by (λ (row : Row). sum_by (of_own row.0) cs) told
all_own told cs apart =
    sum_map (place told) placed_count (filter (is_counted told) cs)
    ∙ sum_filter (λ (c : ChangedRow). c.1.count) (is_counted told) cs
    ∙ sym (for_each (λ (c : ChangedRow). c.0.own) (λ (c : ChangedRow). c.1.count) cs told apart)

counted_own : (a b : Bool) (n : ℕ) → (b ≡ true → a ≡ true) → cond a (cond b n 0) 0 ≡ cond b n 0
counted_own true b n if_so = refl
counted_own false true n if_so = never (if_so refl)
counted_own false false n if_so = refl

own_placed : (told : List Row) (cs : List ChangedRow) (key : Key) → has_race key told ≡ true → sum_by (own_key key) (placed told cs) ≡ sum_by (of_own key) cs
own_placed told cs key has =
    sum_map (place told) (own_key key) (filter (is_counted told) cs)
    ∙ sum_filter (of_own key) (is_counted told) cs
    ∙ sum_each (λ (c : ChangedRow). cond (is_counted told c) (of_own key c) 0) (of_own key) cs
    (λ k d lt. counted_own (is_counted told (get_or cs k d)) (same_key (get_or cs k d).0.own key) (get_or cs k d).1.count
    (λ same. has_alike (get_or cs k d).0.own key told same has))

-- ---- where none of a race's reports are shown with another

stays : (told : List Row) (key : Key) (c : ChangedRow) (b : Bool) → is_of_two key ≡ false → has_pair told c.0 ≡ b → (same_key c.0.own key && not (same_key (cond b c.0.pair c.0.own) key)) ≡ false
    → cond (same_key c.0.own key) c.1.count 0 ≡ cond (same_key (cond b c.0.pair c.0.own) key) c.1.count 0
stays told key c false one is still = refl
stays told key c true one is still =
    let differ : same_key c.0.pair key ≡ false = keys_differ c.0.pair key (and_first (is_of_two c.0.pair) (has_race c.0.pair told) is ∙ sym (ap not one)) in
    by (same_key c.0.own key) (same_key c.0.pair key) differ still
  where
    by : (a b : Bool) → b ≡ false → (a && not b) ≡ false → cond a c.1.count 0 ≡ cond b c.1.count 0
    by true true none h = never (sym none)
    by true false none h = never (sym h)
    by false true none h = never (sym none)
    by false false none h = refl

stay_step : (told : List Row) (key : Key) (c : ChangedRow) (cs : List ChangedRow) (b : Bool) → is_of_two key ≡ false → (has_moved key (map (place told) cs) ≡ false → sum_by (own_key key) (map (place told) cs) ≡ sum_by (with_key key) (map (place told) cs))
    → has_moved key (map (place told) (cond b (c ∷ cs) cs)) ≡ false → sum_by (own_key key) (map (place told) (cond b (c ∷ cs) cs)) ≡ sum_by (with_key key) (map (place told) (cond b (c ∷ cs) cs))
stay_step told key c cs true one later still =
    let both = or_parts (moves key (place told c)) (has_moved key (map (place told) cs)) still in
    let first = sum_by-cons (own_key key) (place told c) (map (place told) cs) in
    let second = sum_by-cons (with_key key) (place told c) (map (place told) cs) in
    let here = stays told key c (has_pair told c.0) one refl both.0 in
    let behind = later both.1 in
    omega (arith, first, second, here, behind)
stay_step told key c cs false one later still = later still

stay : (told : List Row) (key : Key) (cs : List ChangedRow) → is_of_two key ≡ false → has_moved key (placed told cs) ≡ false → sum_by (own_key key) (placed told cs) ≡ sum_by (with_key key) (placed told cs)
stay told key [] one still = refl
stay told key (c ∷ cs) one still = stay_step told key c (filter (is_counted told) cs) (is_counted told c) one (stay told key cs one) still

-- ---- the count of a row as it is shown

raised_count : (n : ℕ) (ps : List Placed) → n + sum_by placed_count ps < 2 ^ 64 → fold (λ m (one : Placed). saturated (m + one.row.count)) n ps ≡ n + sum_by placed_count ps
raised_count n [] few = omega arith
raised_count n (one ∷ ps) few =
    let first = sum_by-cons placed_count one ps in
    let small : saturated (n + one.row.count) ≡ n + one.row.count = omega (arith, few, first) in
    ap (λ m. fold (λ k (other : Placed). saturated (k + other.row.count)) m ps) small
    ∙ raised_count (n + one.row.count) ps (omega (arith, few, first))
    ∙ omega (arith, first)

joined_count : (row : RaceRow) (ps : List Placed) → row.count + sum_by placed_count ps < 2 ^ 64 → (fold joined_first row ps).count ≡ row.count + sum_by placed_count ps
joined_count row [] few = omega arith
joined_count row (one ∷ ps) few =
    let first = sum_by-cons placed_count one ps in
    let small : (joined_first row one).count ≡ row.count + one.row.count = omega (arith, few, first) in
    let later = joined_count (joined_first row one) ps (omega (arith, few, first, small)) in
    omega (arith, first, small, later)

left_count : (key : Key) (ps : List Placed) → sum_by placed_count ps < 2 ^ 64 → option_map_or count_of (option_map (λ (one : RaceRow). (key, one)) (left ps)) 0 ≡ sum_by placed_count ps
left_count key [] few = refl
left_count key (one ∷ ps) few =
    let first = sum_by-cons placed_count one ps in
    joined_count one.row ps (omega (arith, few, first)) ∙ sym first

some_of : (b : Bool) (n : ℕ) → cond b n 0 ≤ n
some_of true n = omega arith
some_of false n = omega arith

sum_some : (key : Key) (ps : List Placed) → sum_by (with_key key) ps ≤ sum_by placed_count ps
sum_some key [] = omega arith
sum_some key (one ∷ ps) =
    let first = sum_by-cons (with_key key) one ps in
    let second = sum_by-cons placed_count one ps in
    let here = some_of (same_key one.race key) one.row.count in
    let later = sum_some key ps in
    omega (arith, first, second, here, later)

-- what is known of a row that is told
record IsCounted (told : List Row) (cs : List ChangedRow) (row : Row) : Type 0 where
  few : row.1.count + sum_by placed_count (placed told cs) < 2 ^ 64
  has : has_race row.0 told ≡ true
  own : sum_by (of_own row.0) cs ≡ cond (is_of_two row.0) 0 row.1.count

shown_step : (told : List Row) (cs : List ChangedRow) (row : Row) (b m : Bool) → is_of_two row.0 ≡ b → has_moved row.0 (placed told cs) ≡ m → IsCounted told cs row
    → option_map_or count_of (cond b (Some (row.0, raised row.1 (with_race row.0 (placed told cs)))) (cond m (option_map (λ (one : RaceRow). (row.0, one)) (left (with_race row.0 (placed told cs)))) (Some row))) 0 ≡ cond b row.1.count 0 + sum_by (with_key row.0) (placed told cs)
shown_step told cs row true m two moved known =
    let those = sum_filter placed_count (λ (one : Placed). same_key one.race row.0) (placed told cs) in
    let less = sum_some row.0 (placed told cs) in
    let few = known.few in
    raised_count row.1.count (with_race row.0 (placed told cs)) (omega (arith, those, less, few)) ∙ ap (λ n. row.1.count + n) those
shown_step told cs row false true two moved known =
    let those = sum_filter placed_count (λ (one : Placed). same_key one.race row.0) (placed told cs) in
    let less = sum_some row.0 (placed told cs) in
    let few = known.few in
    left_count row.0 (with_race row.0 (placed told cs)) (omega (arith, those, less, few)) ∙ those ∙ omega arith
shown_step told cs row false false two moved known =
    let mine : sum_by (of_own row.0) cs ≡ row.1.count = known.own ∙ ap (λ b. cond b 0 row.1.count) two in
    sym mine ∙ sym (own_placed told cs row.0 known.has) ∙ stay told row.0 cs two moved ∙ omega arith

shown_count : (told : List Row) (cs : List ChangedRow) (row : Row) → IsCounted told cs row → option_map_or count_of (shown_row (placed told cs) row) 0 ≡ cond (is_of_two row.0) row.1.count 0 + sum_by (with_key row.0) (placed told cs)
shown_count told cs row known = shown_step told cs row (is_of_two row.0) (has_moved row.0 (placed told cs)) refl refl known

two_or_one : (b : Bool) (n : ℕ) → cond b n 0 + cond b 0 n ≡ n
two_or_one true n = omega arith
two_or_one false n = omega arith

-- ---- the counts of all

-- the races that are told have so many reports of their own
abbrev OwnCounts : List ChangedRow → Row → Type 0
OwnCounts cs row = sum_by (of_own row.0) cs ≡ cond (is_of_two row.0) 0 row.1.count

own_sum : (told : List Row) (cs : List ChangedRow) → AreApart told → All (OwnCounts cs) told → sum_by placed_count (placed told cs) ≡ sum_by (λ (row : Row). cond (is_of_two row.0) 0 row.1.count) told
own_sum told cs apart own =
    all_own told cs apart ∙ sum_each (λ (row : Row). sum_by (of_own row.0) cs) (λ (row : Row). cond (is_of_two row.0) 0 row.1.count) told own

whole_sum : (told : List Row) → sum_by (λ (row : Row). cond (is_of_two row.0) row.1.count 0) told + sum_by (λ (row : Row). cond (is_of_two row.0) 0 row.1.count) told ≡ sum_by count_of told
whole_sum told =
    sum_both (λ (row : Row). cond (is_of_two row.0) row.1.count 0) (λ (row : Row). cond (is_of_two row.0) 0 row.1.count) count_of (λ row. two_or_one (is_of_two row.0) row.1.count) told

are_counted : (told : List Row) (cs : List ChangedRow) → AreApart told → sum_by count_of told < 2 ^ 63 → All (OwnCounts cs) told → All (IsCounted told cs) told
are_counted told cs apart few own k d lt =
    let one = get_or-le-sum_by count_of told k d lt in
    let mine = own_sum told cs apart own in
    let whole = whole_sum told in
    record { few = omega (arith, few, one, mine, whole); has = all_have told k d lt; own = own k d lt }

pub shown_sum : (told : List Row) (cs : List ChangedRow) → AreApart told → sum_by count_of told < 2 ^ 63 → All (OwnCounts cs) told → sum_by count_of (shown_rows told cs) ≡ sum_by count_of told
shown_sum told cs apart few own =
    let counted = are_counted told cs apart few own in
    let shown = sum_filter_map (shown_row (placed told cs)) count_of told in
    let each = sum_each (λ (row : Row). option_map_or count_of (shown_row (placed told cs) row) 0) (λ (row : Row). cond (is_of_two row.0) row.1.count 0 + sum_by (with_key row.0) (placed told cs)) told
    (λ k d lt. shown_count told cs (get_or told k d) (counted k d lt)) in
    let parts = sum_both (λ (row : Row). cond (is_of_two row.0) row.1.count 0) (λ (row : Row). sum_by (with_key row.0) (placed told cs)) (λ (row : Row). cond (is_of_two row.0) row.1.count 0 + sum_by (with_key row.0) (placed told cs)) (λ row. refl) told in
    let all = all_placed told cs apart in
    let mine = own_sum told cs apart own in
    let whole = whole_sum told in
    omega (arith, shown, each, parts, all, mine, whole)

-- ---- the reports of a hunt

own_of_runs : RacesAreApart → (p : Row → Bool) (first : ℕ) (runs : List KeptRun) → length (rows_from first runs) < 2 ^ 63 → All (OwnCounts (changed_of (changed_from first runs))) (filter p (table_of (rows_from first runs)))
own_of_runs apart p first runs few k d lt =
    let row = get_or (filter p (table_of (rows_from first runs))) k d in
    let mine = All-filter p (AreAlone (table_of (rows_from first runs))) (table_of (rows_from first runs)) (alone (table_of (rows_from first runs)) (apart (rows_from first runs))) k d lt in
    own_counts row.0 first runs few ∙ ap (cond (is_of_two row.0) 0) mine

counted_in : RacesAreApart → (naming : Naming) (lines : List Line) (orders : List (Key × OrderRow)) (told : List Row) (first : ℕ) (runs : List KeptRun) → length (rows_from first runs) < 2 ^ 63
    → AreInOrder naming.image orders (shown_rows (filter (is_told naming lines) (table_of (rows_from first runs))) (changed_of (changed_from first runs))) told
    → sum_by count_of told + (sum_by count_of (of_class Named (shown_rows (filter (is_told naming lines) (table_of (rows_from first runs))) (changed_of (changed_from first runs)))) + sum_by count_of (filter (is_ignored naming lines) (table_of (rows_from first runs)))) ≡ length (rows_from first runs)
counted_in apart naming lines orders told first runs few order =
    let table = table_of (rows_from first runs) in
    let kept = filter (is_told naming lines) table in
    let changed = changed_of (changed_from first runs) in
    let once = each_is_shown_once naming.image orders (shown_rows kept changed) told count_of order in
    let ignored = sum_by-filter_both (is_told naming lines) (is_ignored naming lines) (λ row. twice (is_ignored naming lines row)) count_of table in
    let count = table_count first runs few in
    let same = shown_sum kept changed (apart-filter (is_told naming lines) table (apart (rows_from first runs))) (omega (arith, ignored, count, few)) (own_of_runs apart (is_told naming lines) first runs few) in
    omega (arith, once, ignored, count, same)

counted_of : RacesAreApart → (naming : Naming) (lines : List Line) (told : List Row) (first : ℕ) (runs : List KeptRun) (hunted : Hunted) → hunted ≡ seen_in first runs → length (rows_from first runs) < 2 ^ 63
    → AreInOrder naming.image hunted.orders (shown_rows (filter (is_told naming lines) hunted.table) hunted.changed) told
    → sum_by count_of told + (sum_by count_of (of_class Named (shown_rows (filter (is_told naming lines) hunted.table) hunted.changed)) + sum_by count_of (filter (is_ignored naming lines) hunted.table)) ≡ length (rows_from first runs)
unfolding seen_in
counted_of apart naming lines told first runs hunted seen few order =
    let table : hunted.table ≡ table_of (rows_from first runs) = ap (λ (h : Hunted). h.table) seen in
    let changed : hunted.changed ≡ changed_of (changed_from first runs) = ap (λ (h : Hunted). h.changed) seen in
    rw (table, changed) (counted_in apart naming lines hunted.orders told first runs few (rw (table, changed) at order))

pub each_is_counted_once : RacesAreApart → EachIsCountedOnce
each_is_counted_once apart hunt hunted so_far naming lines told few order =
    counted_of apart naming lines told hunt.first so_far.runs hunted so_far.seen few order
