-- The first report of each key, and the rows that they make, after one more report.
use Rattle.std.proofs.Common.{◌≡◌, ℕ, ◌+◌, Bool, true, false, cond, List, [], ◌∷◌, ◌++◌, map, refl, sym, ap, ◌∙◌, rules, arith, add-zero, zero-add}
use Rattle.std.specs.Prelude.{◌||◌, not, filter, count_by}
use Rattle.std.specs.List.{list_any}
use Rattle.std.specs.Cmp.{IsEquivalence}
use Rattle.std.specs.Cmp.Rules.{comparing}
use Rattle.std.proofs.lemmas.List.{map-append, append-nil}
use Rattle.std.proofs.lemmas.List.Elements.{filter-append}
use Rattle.std.proofs.lemmas.List.Sums.{sum_by_push, sum_by-cons}
use Rattle.rv_collide.specs.Counts.{saturated}
use Rattle.rv_report.specs.Races.{Report, same_key, has_key, firsts, row, rows}
use Rattle.rv_report.specs.internal.Added.{raised}
use Rattle.rv_report.specs.declared.key.Key.{Key}
use Rattle.rv_report.specs.declared.row.Row.{Row}

pub same_key_equiv : IsEquivalence same_key
same_key_equiv = search (comparing, rules)

or_false : (b c : Bool) → (b || c) ≡ false → (b ≡ false) × (c ≡ false)
or_false false c h = (refl, h)
or_false true c h = cc

-- the reports of other keys
abbrev others : Key → List Report → List Report
others key rs = filter (λ other. not (has_key key other)) rs

-- ---- which keys the first reports have

unlike : (key other : Key) (r : Report) → same_key key other ≡ false → has_key other r ≡ true → has_key key r ≡ false
unlike key other r differ same =
    same_key_equiv.symm key r.key ∙ sym (same_key_equiv.congr other r.key key same) ∙ same_key_equiv.symm other key ∙ differ

any-others-step : (key other : Key) (r : Report) (rs : List Report) (b : Bool) → same_key key other ≡ false → has_key other r ≡ b → list_any (has_key key) (others other rs) ≡ list_any (has_key key) rs → list_any (has_key key) (others other (r ∷ rs)) ≡ list_any (has_key key) (r ∷ rs)
any-others-step key other r rs true differ same rest = rw (same, unlike key other r differ same) rest
any-others-step key other r rs false differ same rest = rw same (ap (λ b. has_key key r || b) rest)

any-others : (key other : Key) (rs : List Report) → same_key key other ≡ false → list_any (has_key key) (others other rs) ≡ list_any (has_key key) rs
any-others key other [] differ = refl
any-others key other (r ∷ rs) differ = any-others-step key other r rs (has_key other r) differ refl (any-others key other rs differ)

any-firsts-step : (key : Key) (r : Report) (rs : List Report) (b : Bool) → has_key key r ≡ b → list_any (has_key key) (firsts rs) ≡ list_any (has_key key) rs → list_any (has_key key) (firsts (r ∷ rs)) ≡ list_any (has_key key) (r ∷ rs)
unfolding firsts
any-firsts-step key r rs true same rest = rw same refl
any-firsts-step key r rs false differ rest = rw differ (any-others key r.key (firsts rs) differ ∙ rest)

pub any-firsts : (key : Key) (rs : List Report) → list_any (has_key key) (firsts rs) ≡ list_any (has_key key) rs
unfolding firsts
any-firsts key [] = refl
any-firsts key (r ∷ rs) = any-firsts-step key r rs (has_key key r) refl (any-firsts key rs)

-- ---- the first reports after one more

push-case : (x r : Report) (fs : List Report) (b c : Bool) → has_key x.key r ≡ b → x ∷ others x.key (cond c fs (fs ++ r ∷ [])) ≡ cond (b || c) (x ∷ others x.key fs) (x ∷ others x.key fs ++ r ∷ [])
push-case x r fs true true is = refl
push-case x r fs false true is = refl
push-case x r fs true false is =
    ap (λ xs. x ∷ xs) (filter-append (λ other. not (has_key x.key other)) fs (r ∷ []) ∙ rw is (append-nil (others x.key fs)))
push-case x r fs false false is =
    ap (λ xs. x ∷ xs) (filter-append (λ other. not (has_key x.key other)) fs (r ∷ []) ∙ rw is refl)

-- one more report is the first of its key where none before has it
pub firsts-push : (rs : List Report) (r : Report) → firsts (rs ++ r ∷ []) ≡ cond (list_any (has_key r.key) rs) (firsts rs) (firsts rs ++ r ∷ [])
unfolding firsts
firsts-push [] r = refl
firsts-push (x ∷ rs) r =
    ap (λ fs. x ∷ others x.key fs) (firsts-push rs r)
    ∙ push-case x r (firsts rs) (has_key r.key x) (list_any (has_key r.key) rs) (same_key_equiv.symm x.key r.key)

-- ---- the first reports have different keys

abbrev pub AreApart : List Report → Type 0
AreApart [] = Unit {0}
AreApart (r ∷ rs) = (list_any (has_key r.key) rs ≡ false) × AreApart rs

none-own-step : (key : Key) (r : Report) (rs : List Report) (b : Bool) → has_key key r ≡ b → list_any (has_key key) (others key rs) ≡ false → list_any (has_key key) (others key (r ∷ rs)) ≡ false
none-own-step key r rs true is rest = rw is rest
none-own-step key r rs false is rest = rw (is, is) rest

none-own : (key : Key) (rs : List Report) → list_any (has_key key) (others key rs) ≡ false
none-own key [] = refl
none-own key (r ∷ rs) = none-own-step key r rs (has_key key r) refl (none-own key rs)

none-filter-step : (key : Key) (p : Report → Bool) (r : Report) (rs : List Report) (b : Bool) → p r ≡ b → has_key key r ≡ false → list_any (has_key key) (filter p rs) ≡ false → list_any (has_key key) (filter p (r ∷ rs)) ≡ false
none-filter-step key p r rs true is differ rest = rw (is, differ) rest
none-filter-step key p r rs false is differ rest = rw is rest

none-filter : (key : Key) (p : Report → Bool) (rs : List Report) → list_any (has_key key) rs ≡ false → list_any (has_key key) (filter p rs) ≡ false
none-filter key p [] none = refl
none-filter key p (r ∷ rs) none =
    let both = or_false (has_key key r) (list_any (has_key key) rs) none in
    none-filter-step key p r rs (p r) refl both.0 (none-filter key p rs both.1)

apart-filter-step : (p : Report → Bool) (r : Report) (rs : List Report) (b : Bool) → p r ≡ b → list_any (has_key r.key) rs ≡ false → AreApart (filter p rs) → AreApart (filter p (r ∷ rs))
apart-filter-step p r rs true is none rest = rw is (none-filter r.key p rs none, rest)
apart-filter-step p r rs false is none rest = rw is rest

apart-filter : (p : Report → Bool) (rs : List Report) → AreApart rs → AreApart (filter p rs)
apart-filter p [] apart = tt
apart-filter p (r ∷ rs) apart = apart-filter-step p r rs (p r) refl apart.0 (apart-filter p rs apart.1)

pub firsts-apart : (rs : List Report) → AreApart (firsts rs)
unfolding firsts
firsts-apart [] = tt
firsts-apart (r ∷ rs) = (none-own r.key (firsts rs), apart-filter (λ other. not (has_key r.key other)) (firsts rs) (firsts-apart rs))

-- ---- the rows after one more report

count-push : (key : Key) (all : List Report) (r : Report) → count_by (has_key key) (all ++ r ∷ []) ≡ count_by (has_key key) all + cond (has_key key r) 1 0
count-push key all r = sum_by_push (λ x. cond (has_key key x) 1 0) all r

count-none : (key : Key) (all : List Report) → list_any (has_key key) all ≡ false → count_by (has_key key) all ≡ 0
count-none key [] none = refl
count-none key (r ∷ rs) none =
    let both = or_false (has_key key r) (list_any (has_key key) rs) none in
    sum_by-cons (λ x. cond (has_key key x) 1 0) r rs ∙ rw both.0 (zero-add (count_by (has_key key) rs) ∙ count-none key rs both.1)

-- a row with another count
abbrev counted : Report → ℕ → Key × Row
counted f n = (f.key, record { count = n; run = f.run; ending = f.ending })

abbrev with_count : Report → ℕ → Key × Row
with_count f n = counted f (saturated n)

pub saturated-more : (n m : ℕ) → saturated (saturated n + m) ≡ saturated (n + m)
saturated-more n m = omega arith

row-other : (all : List Report) (r f : Report) → has_key r.key f ≡ false → row all f ≡ row (all ++ r ∷ []) f
row-other all r f differ =
    ap (with_count f) (sym (count-push f.key all r ∙ rw (same_key_equiv.symm f.key r.key, differ) (add-zero (count_by (has_key f.key) all))))

row-own : (all : List Report) (r f : Report) → has_key r.key f ≡ true → with_count f (saturated (count_by (has_key f.key) all) + 1) ≡ row (all ++ r ∷ []) f
row-own all r f same =
    let counts : count_by (has_key f.key) (all ++ r ∷ []) ≡ count_by (has_key f.key) all + 1 = count-push f.key all r ∙ rw (same_key_equiv.symm f.key r.key, same) refl in
    ap (counted f) (saturated-more (count_by (has_key f.key) all) 1 ∙ ap saturated (sym counts))

map_row-others : (all : List Report) (r : Report) (fs : List Report) → list_any (has_key r.key) fs ≡ false → map (row all) fs ≡ map (row (all ++ r ∷ [])) fs
map_row-others all r [] none = refl
map_row-others all r (f ∷ fs) none =
    let both = or_false (has_key r.key f) (list_any (has_key r.key) fs) none in
    ap (λ e. e ∷ map (row all) fs) (row-other all r f both.0) ∙ ap (λ es. row (all ++ r ∷ []) f ∷ es) (map_row-others all r fs both.1)

-- a new row
abbrev new_row : Report → Key × Row
new_row r = (r.key, record { count = 1; run = r.run; ending = r.ending })

alike-none : (r f : Report) (fs : List Report) → has_key r.key f ≡ true → list_any (has_key f.key) fs ≡ false → list_any (has_key r.key) fs ≡ false
alike-none r f [] same none = refl
alike-none r f (g ∷ gs) same none =
    let both = or_false (has_key f.key g) (list_any (has_key f.key) gs) none in
    rw (same_key_equiv.congr r.key f.key g.key same, both.0) (alike-none r f gs same both.1)

raised-step : (all : List Report) (r f : Report) (fs : List Report) (b : Bool) → has_key r.key f ≡ b → list_any (has_key f.key) fs ≡ false → raised (map (row all) fs) r.key r.run r.ending ≡ cond (list_any (has_key r.key) fs) (map (row (all ++ r ∷ [])) fs) (map (row (all ++ r ∷ [])) fs ++ new_row r ∷ []) → raised (map (row all) (f ∷ fs)) r.key r.run r.ending ≡ cond (b || list_any (has_key r.key) fs) (map (row (all ++ r ∷ [])) (f ∷ fs)) (map (row (all ++ r ∷ [])) (f ∷ fs) ++ new_row r ∷ [])
raised-step all r f fs true is apart rest =
    rw is (ap (λ e. e ∷ map (row all) fs) (row-own all r f is) ∙ ap (λ es. row (all ++ r ∷ []) f ∷ es) (map_row-others all r fs (alike-none r f fs is apart)))
raised-step all r f fs false is apart rest =
    rw is (ap (λ e. e ∷ raised (map (row all) fs) r.key r.run r.ending) (row-other all r f is) ∙ ap (λ es. row (all ++ r ∷ []) f ∷ es) rest ∙ cons-cond (list_any (has_key r.key) fs))
  where
    cons-cond : (c : Bool) → row (all ++ r ∷ []) f ∷ cond c (map (row (all ++ r ∷ [])) fs) (map (row (all ++ r ∷ [])) fs ++ new_row r ∷ []) ≡ cond c (map (row (all ++ r ∷ [])) (f ∷ fs)) (map (row (all ++ r ∷ [])) (f ∷ fs) ++ new_row r ∷ [])
    cons-cond true = refl
    cons-cond false = refl

raised-rows : (all : List Report) (r : Report) (fs : List Report) → AreApart fs → raised (map (row all) fs) r.key r.run r.ending ≡ cond (list_any (has_key r.key) fs) (map (row (all ++ r ∷ [])) fs) (map (row (all ++ r ∷ [])) fs ++ new_row r ∷ [])
raised-rows all r [] apart = refl
raised-rows all r (f ∷ fs) apart =
    raised-step all r f fs (has_key r.key f) refl apart.0 (raised-rows all r fs apart.1)

-- the last row is new where none before has its key
row-new : (all : List Report) (r : Report) → list_any (has_key r.key) all ≡ false → row (all ++ r ∷ []) r ≡ new_row r
row-new all r none =
    let counts : count_by (has_key r.key) (all ++ r ∷ []) ≡ 1 = count-push r.key all r ∙ rw (same_key_equiv.refl r.key, count-none r.key all none) refl in
    ap (with_count r) counts

rows-case : (all : List Report) (r : Report) (c : Bool) → list_any (has_key r.key) all ≡ c → map (row (all ++ r ∷ [])) (cond c (firsts all) (firsts all ++ r ∷ [])) ≡ cond c (map (row (all ++ r ∷ [])) (firsts all)) (map (row (all ++ r ∷ [])) (firsts all) ++ new_row r ∷ [])
rows-case all r true is = refl
rows-case all r false is =
    map-append (row (all ++ r ∷ [])) (firsts all) (r ∷ []) ∙ ap (λ e. map (row (all ++ r ∷ [])) (firsts all) ++ e ∷ []) (row-new all r is)

-- one more report raises the row of its key, or makes a new last one
pub rows-push : (all : List Report) (r : Report) → rows (all ++ r ∷ []) ≡ raised (rows all) r.key r.run r.ending
unfolding rows
rows-push all r =
    ap (map (row (all ++ r ∷ []))) (firsts-push all r) ∙ rows-case all r (list_any (has_key r.key) all) refl
    ∙ sym (raised-rows all r (firsts all) (firsts-apart all) ∙ ap (λ c. cond c (map (row (all ++ r ∷ [])) (firsts all)) (map (row (all ++ r ∷ [])) (firsts all) ++ new_row r ∷ [])) (any-firsts r.key all))
