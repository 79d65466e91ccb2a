-- The table after one more ending.
use Rattle.std.proofs.Common.{◌≡◌, ℕ, ◌+◌, Bool, true, false, cond, List, [], ◌∷◌, ◌++◌, Option, Some, None, refl, sym, ap, ◌∙◌, arith}
use Rattle.std.specs.Prelude.{◌&&◌, is_some, filter_map, count_by}
use Rattle.std.proofs.lemmas.List.{append-nil}
use Rattle.std.proofs.lemmas.List.Elements.{filter_map-append}
use Rattle.std.proofs.lemmas.List.Sums.{sum_by_push}
use Rattle.rv_prune.specs.declared.class.Class.{Class}
use Rattle.rv_prune.specs.declared.class.Class.TheVariants.{Named, Flag, Counter, Kept}
use Rattle.rv_collide.specs.Counts.{saturated}
use Rattle.rv_report.specs.Races.{Told, Report, Table, key_of, with_key, report_of, reports, rows, pruned, races, is_named, is_flag, is_counter}
use Rattle.rv_report.specs.internal.Added.{raised, added, added_key}
use Rattle.rv_report.specs.declared.key.Key.{Key}
use Rattle.rv_report.specs.declared.row.Row.{Row}
use Rattle.rv_report.proofs.Reports.{rows-push, saturated-more}

-- the key of what was told
abbrev key_told : Told → Option Key
key_told t = key_of t.ending.access t.ending.verdict

abbrev one_list : Option Report → List Report
one_list None = []
one_list (Some r) = r ∷ []

filter_map-one : (t : Told) (o : Option Report) → report_of t ≡ o → filter_map report_of (t ∷ []) ≡ one_list o
filter_map-one t None is = rw is refl
filter_map-one t (Some r) is = rw is refl

reports-push : (told : List Told) (t : Told) (o : Option Report) → report_of t ≡ o → reports (told ++ t ∷ []) ≡ reports told ++ one_list o
unfolding reports
reports-push told t o is =
    filter_map-append report_of told (t ∷ []) ∙ ap (λ rs. filter_map report_of told ++ rs) (filter_map-one t o is)

rows-same : (told : List Told) (t : Told) → report_of t ≡ None → rows (reports (told ++ t ∷ [])) ≡ rows (reports told)
rows-same told t none = ap rows (reports-push told t None none ∙ append-nil (reports told))

rows-more : (told : List Told) (t : Told) (key : Key) → report_of t ≡ Some (with_key t key) → rows (reports (told ++ t ∷ [])) ≡ raised (rows (reports told)) key t.run t.ending
rows-more told t key is = ap rows (reports-push told t (Some (with_key t key)) is) ∙ rows-push (reports told) (with_key t key)

abbrev counts : (Class → Bool) → Told → Bool
counts is_class t = is_class t.class && is_some (key_told t)

pruned-sum : (is_class : Class → Bool) (told : List Told) (t : Told) (n : ℕ) → cond (counts is_class t) 1 0 ≡ n → pruned is_class (told ++ t ∷ []) ≡ saturated (pruned is_class told + n)
unfolding pruned
pruned-sum is_class told t n is =
    ap saturated (sum_by_push (λ x. cond (counts is_class x) 1 0) told t ∙ ap (λ k. count_by (counts is_class) told + k) is)
    ∙ sym (saturated-more (count_by (counts is_class) told) n)

pruned-more : (is_class : Class → Bool) (told : List Told) (t : Told) → counts is_class t ≡ true → pruned is_class (told ++ t ∷ []) ≡ saturated (pruned is_class told + 1)
pruned-more is_class told t is = pruned-sum is_class told t 1 (ap (λ b. cond b 1 0) is)

saturated-twice : (n : ℕ) → saturated (saturated n + 0) ≡ saturated n
saturated-twice n = omega arith

pruned-saturated : (is_class : Class → Bool) (told : List Told) → saturated (pruned is_class told + 0) ≡ pruned is_class told
unfolding pruned
pruned-saturated is_class told = saturated-twice (count_by (counts is_class) told)

pruned-same : (is_class : Class → Bool) (told : List Told) (t : Told) → counts is_class t ≡ false → pruned is_class (told ++ t ∷ []) ≡ pruned is_class told
pruned-same is_class told t is = pruned-sum is_class told t 0 (ap (λ b. cond b 1 0) is) ∙ pruned-saturated is_class told

table : List (Key × Row) → ℕ → ℕ → ℕ → Table
table rows named flag counter = record { rows = rows; named = named; flag = flag; counter = counter }

same_table : (rs rs' : List (Key × Row)) (n n' f f' c c' : ℕ) → rs' ≡ rs → n' ≡ n → f' ≡ f → c' ≡ c → table rs n f c ≡ table rs' n' f' c'
same_table rs rs' n n' f f' c c' e1 e2 e3 e4 = rw (e1, e2, e3, e4) refl

added-case : (told : List Told) (t : Told) (class : Class) (key : Option Key) → t.class ≡ class → key_told t ≡ key → added_key (races told) t.run t.ending class key ≡ races (told ++ t ∷ [])
unfolding races table
added-case told t Named (Some key) is has =
    same_table _ _ _ _ _ _ _ _ (rows-same told t (rw is refl)) (pruned-more is_named told t (rw (is, has) refl)) (pruned-same is_flag told t (rw is refl)) (pruned-same is_counter told t (rw is refl))
added-case told t Flag (Some key) is has =
    same_table _ _ _ _ _ _ _ _ (rows-same told t (rw is refl)) (pruned-same is_named told t (rw is refl)) (pruned-more is_flag told t (rw (is, has) refl)) (pruned-same is_counter told t (rw is refl))
added-case told t Counter (Some key) is has =
    same_table _ _ _ _ _ _ _ _ (rows-same told t (rw is refl)) (pruned-same is_named told t (rw is refl)) (pruned-same is_flag told t (rw is refl)) (pruned-more is_counter told t (rw (is, has) refl))
added-case told t Kept (Some key) is has =
    same_table _ _ _ _ _ _ _ _ (rows-more told t key (rw (is, has) refl)) (pruned-same is_named told t (rw is refl)) (pruned-same is_flag told t (rw is refl)) (pruned-same is_counter told t (rw is refl))
added-case told t Named None is has =
    same_table _ _ _ _ _ _ _ _ (rows-same told t (rw is refl)) (pruned-same is_named told t (rw (is, has) refl)) (pruned-same is_flag told t (rw is refl)) (pruned-same is_counter told t (rw is refl))
added-case told t Flag None is has =
    same_table _ _ _ _ _ _ _ _ (rows-same told t (rw is refl)) (pruned-same is_named told t (rw is refl)) (pruned-same is_flag told t (rw (is, has) refl)) (pruned-same is_counter told t (rw is refl))
added-case told t Counter None is has =
    same_table _ _ _ _ _ _ _ _ (rows-same told t (rw is refl)) (pruned-same is_named told t (rw is refl)) (pruned-same is_flag told t (rw is refl)) (pruned-same is_counter told t (rw (is, has) refl))
added-case told t Kept None is has =
    same_table _ _ _ _ _ _ _ _ (rows-same told t (rw (is, has) refl)) (pruned-same is_named told t (rw is refl)) (pruned-same is_flag told t (rw is refl)) (pruned-same is_counter told t (rw is refl))

pub added-push : (told : List Told) (t : Told) → added (races told) t ≡ races (told ++ t ∷ [])
added-push told t = added-case told t t.class (key_told t) refl refl
