-- Each race is counted once.
use Rattle.std.proofs.Common.{◌≡◌, ℕ, suc, ◌+◌, Bool, true, false, cond, not, ◌==◌, List, [], ◌∷◌, ◌++◌, map, Some, ap, ◌∙◌, refl, arith}
use Rattle.std.specs.Prelude.{nat_lt, slice_get, sum_by, filter, if◌then◌else◌}
use Rattle.std.specs.Option.{option_map_or}
use Rattle.std.proofs.lemmas.List.Filters.{sum_by-filter_both}
use Rattle.std.proofs.lemmas.List.Sorted.{sum_by-IsPermutation}
use Rattle.std.proofs.lemmas.List.Sums.{sum_by-cons}
use Rattle.rv_elf.specs.Contents.{Contents}
use Rattle.rv_explain.specs.Classes.{rank}
use Rattle.rv_races.specs.declared.classes.RaceClass.{RaceClass}
use Rattle.rv_races.specs.declared.classes.RaceClass.TheVariants.{Kept, Counter, Unwatched, Flag, Ordered, Atomic, Named}
use Rattle.rv_shown.specs.ShownOnce.{EachIsShownOnce}
use Rattle.rv_shown.specs.ToldOrder.{AreAt, group_of, is_of, standing_of, standings, standings_from}
use Rattle.rv_tables.specs.declared.orders.OrderRow.{OrderRow}
use Rattle.rv_tables.specs.declared.row.RaceRow.{RaceRow}
use Rattle.rv_shown.specs.declared.saying.order.Group.{Group}
use Rattle.rv_shown.specs.declared.saying.order.Standing.{Standing}
use Rattle.rv_report.specs.declared.key.Key.{Key}

abbrev Row : Type 0
Row = Key × RaceRow

first_same : {X : Type 0} (x y : X) (xs ys : List X) → x ∷ xs ≡ y ∷ ys → (x ≡ y) × (xs ≡ ys)
first_same x y xs ys h = (cc, cc)

-- what is summed at a standing
abbrev at : (Row → ℕ) → List Row → Standing → ℕ
at weight rows standing = option_map_or weight (slice_get rows standing.place) 0

told_sum : (weight : Row → ℕ) (rows told : List Row) (stand : List Standing) → AreAt rows stand told → sum_by weight told ≡ sum_by (at weight rows) stand
told_sum weight rows [] [] h = refl
told_sum weight rows [] (s ∷ stand) h = absurd cc
told_sum weight rows (row ∷ told) [] h = absurd cc
told_sum weight rows (row ∷ told) (s ∷ stand) h =
    let both = first_same _ _ _ _ h in
    let here : weight row ≡ at weight rows s = ap (λ o. option_map_or weight o 0) both.0 in
    let later = told_sum weight rows told stand both.1 in
    let one = sum_by-cons weight row told in
    let other = sum_by-cons (at weight rows) s stand in
    omega (arith, here, later, one, other)

-- a race that is shown one by one
abbrev is_shown : Row → Bool
is_shown row = nat_lt (rank row.1.class) (rank Named)

sum_if : (b : Bool) (v : Standing → ℕ) (weight : Row → ℕ) (s : Standing) (row : Row) (stand : List Standing) (rows : List Row) → v s ≡ weight row → sum_by v stand ≡ sum_by weight rows
    → sum_by v ((if b then s ∷ [] else []) ++ stand) ≡ sum_by weight (cond b (row ∷ rows) rows)
sum_if true v weight s row stand rows here later =
    let one = sum_by-cons v s stand in
    let other = sum_by-cons weight row rows in
    omega (arith, here, later, one, other)
sum_if false v weight s row stand rows here later = later

stood : (image : Contents) (orders : List (Key × OrderRow)) (weight : Row → ℕ) (all : List Row) (groups : List Group) (k : ℕ) (rows : List Row) → ((n : ℕ) (row : Row) → slice_get rows n ≡ Some row → slice_get all (k + n) ≡ Some row)
    → sum_by (at weight all) (standings_from groups k (map (group_of image orders) rows)) ≡ sum_by weight (filter is_shown rows)
stood image orders weight all groups k [] there = refl
stood image orders weight all groups k (row ∷ rows) there =
    let here : slice_get all k ≡ Some row = ap (λ n. slice_get all n) (omega arith) ∙ there 0 row refl in
    sum_if (is_shown row) (at weight all) weight (standing_of groups k (group_of image orders row)) row _ (filter is_shown rows) (ap (λ o. option_map_or weight o 0) here)
    (stood image orders weight all groups (k + 1) rows (λ n other is. ap (λ m. slice_get all m) (omega arith) ∙ there (suc n) other is))

by_class : (class : RaceClass) → (rank class == rank Named) ≡ not (nat_lt (rank class) (rank Named))
by_class Kept = refl
by_class Counter = refl
by_class Unwatched = refl
by_class Flag = refl
by_class Ordered = refl
by_class Atomic = refl
by_class Named = refl

pub twice : (b : Bool) → b ≡ not (not b)
twice true = refl
twice false = refl

pub each_is_shown_once : EachIsShownOnce
each_is_shown_once image orders races told weight order =
    let groups = map (group_of image orders) races in
    let shown = told_sum weight races told order.stand order.are in
    let moved = sum_by-IsPermutation (at weight races) (standings groups) order.stand order.all in
    let all = stood image orders weight races groups 0 races (λ n row there. ap (λ m. slice_get races m) (omega arith) ∙ there) in
    let named = sum_by-filter_both is_shown (is_of Named) (λ row. by_class row.1.class) weight races in
    omega (arith, shown, moved, all, named)
