-- A list of places, compared with a hart's own.
use Rattle.std.proofs.Common.{◌≡◌, ℕ, zero, suc, ◌+◌, ◌-◌, ◌≤◌, ◌<◌, ◌↔◌, inl, inr, Bool, true, false, cond, List, [], ◌∷◌, length, drop, get_or, map, Some, refl, sym, ap, subst, ◌∙◌, arith, add-one}
use Rattle.std.specs.Prelude.{◌==◌, filter, slice_get, IsTrue}
use Rattle.std.specs.List.{range_with_len}
use Rattle.std.specs.Option.{option_map_or}
use Rattle.std.proofs.lemmas.Bool.{cases_lt}
use Rattle.std.proofs.lemmas.Bool.Decides.{nat_tests}
use Rattle.std.proofs.lemmas.List.{length-map}
use Rattle.std.proofs.lemmas.Option.{slice_get_within}
use Rattle.rv_collide.specs.Entries.{places}
use Rattle.rv_collide.specs.Stored.{Stored}
use Rattle.rv_collide.specs.declared.entry.Entry.{Entry}
use Rattle.rv_locked.specs.Own.{AreOwn, IsLeastStray, IsOwn, is_of, is_own_place, own_places}

-- the hart's own places from one on
abbrev pub own_from : List Entry → ℕ → ℕ → ℕ → List ℕ
own_from entries hart place end = filter (is_own_place entries hart) (range_with_len place (end - place))

abbrev pub AgreesFrom : List ℕ → List Entry → ℕ → ℕ → ℕ → ℕ → Type 0
AgreesFrom list entries hart met place end = (list ≡ own_places entries hart) ↔ (drop met list ≡ own_from entries hart place end)

pub agrees_at_first : (list : List ℕ) (entries : List Entry) (hart end : ℕ) → end ≡ length entries → AgreesFrom list entries hart 0 0 end
unfolding own_places places
agrees_at_first list entries hart end is =
    let all : end - 0 ≡ length entries = omega (arith, is) in
    let same = ap (λ (n : ℕ). filter (is_own_place entries hart) (range_with_len 0 n)) all in
    (λ own. own ∙ sym same, λ own. own ∙ same)

left_of : (place end : ℕ) → place < end → end - place ≡ suc (end - (place + 1))
left_of place end lt = omega arith

passes : (entries : List Entry) (hart place : ℕ) (e : Entry) (b : Bool) → slice_get entries place ≡ Some e → b ≡ is_of hart e → is_own_place entries hart place ≡ b
passes entries hart place e b there is = ap (λ o. option_map_or (is_of hart) o false) there ∙ sym is

begins : (entries : List Entry) (hart place end : ℕ) (b : Bool) → place < end → is_own_place entries hart place ≡ b → own_from entries hart place end ≡ cond b (place ∷ own_from entries hart (place + 1) end) (own_from entries hart (place + 1) end)
begins entries hart place end b lt is =
    ap (λ (n : ℕ). filter (is_own_place entries hart) (range_with_len place n)) (left_of place end lt)
    ∙ ap (λ c. cond c (place ∷ own_from entries hart (place + 1) end) (own_from entries hart (place + 1) end)) is

drop_one : (xs : List ℕ) (n : ℕ) → n < length xs → drop n xs ≡ get_or xs n 0 ∷ drop (suc n) xs
drop_one [] n below = absurd (omega arith)
drop_one (x ∷ xs) zero below = refl
drop_one (x ∷ xs) (suc n) below = drop_one xs n (omega arith)

next_left : (xs : List ℕ) (n place : ℕ) → n < length xs → get_or xs n 0 ≡ place → drop n xs ≡ place ∷ drop (n + 1) xs
next_left xs n place below is =
    drop_one xs n below ∙ ap (λ (k : ℕ). get_or xs n 0 ∷ drop k xs) (sym (add-one n)) ∙ ap (λ (x : ℕ). x ∷ drop (n + 1) xs) is

same_rest : (x : ℕ) (xs ys : List ℕ) → x ∷ xs ≡ x ∷ ys → xs ≡ ys
same_rest x xs ys h = cc

pub agrees_at_own : (list : List ℕ) (entries : List Entry) (hart met place end : ℕ) (e : Entry) (b : Bool) → AgreesFrom list entries hart met place end → place < end → slice_get entries place ≡ Some e → b ≡ is_of hart e → b ≡ true → met < length list → get_or list met 0 ≡ place → AgreesFrom list entries hart (met + 1) (place + 1) end
agrees_at_own list entries hart met place end e b same lt there is own below here =
    let rest = begins entries hart place end true lt (passes entries hart place e true there (sym own ∙ is)) in
    let left = next_left list met place below here in (
      λ o. same_rest place (drop (met + 1) list) (own_from entries hart (place + 1) end) (sym left ∙ same.0 o ∙ rest),
      λ o. same.1 (left ∙ ap (λ (xs : List ℕ). place ∷ xs) o ∙ sym rest),
    )

pub agrees_at_other : (list : List ℕ) (entries : List Entry) (hart met place end : ℕ) (e : Entry) (b : Bool) → AgreesFrom list entries hart met place end → place < end → slice_get entries place ≡ Some e → b ≡ is_of hart e → b ≡ false → AgreesFrom list entries hart met (place + 1) end
agrees_at_other list entries hart met place end e b same lt there is other =
    let rest = begins entries hart place end false lt (passes entries hart place e false there (sym other ∙ is)) in
    (λ o. same.0 o ∙ rest, λ o. same.1 (o ∙ sym rest))

drop_past : (xs : List ℕ) (n : ℕ) → length xs ≤ n → drop n xs ≡ []
drop_past [] zero past = refl
drop_past [] (suc n) past = refl
drop_past (x ∷ xs) zero past = absurd (omega arith)
drop_past (x ∷ xs) (suc n) past = drop_past xs n (omega arith)

no_place : (x : ℕ) (xs : List ℕ) → [] ≡ x ∷ xs → ⊥
no_place x xs h = cc

false_is_not : IsTrue false → ⊥
false_is_not h = cc

same_first : (x y : ℕ) (xs ys : List ℕ) → x ∷ xs ≡ y ∷ ys → x ≡ y
same_first x y xs ys h = cc

pub too_short : (list : List ℕ) (entries : List Entry) (hart met place end : ℕ) (e : Entry) (b : Bool) → AgreesFrom list entries hart met place end → place < end → slice_get entries place ≡ Some e → b ≡ is_of hart e → b ≡ true → length list ≤ met → IsTrue false ↔ (list ≡ own_places entries hart)
too_short list entries hart met place end e b same lt there is own past =
    let rest = begins entries hart place end true lt (passes entries hart place e true there (sym own ∙ is)) in
    (λ h. absurd (false_is_not h), λ o. absurd (no_place place (own_from entries hart (place + 1) end) (sym (drop_past list met past) ∙ same.0 o ∙ rest)))

pub another_there : (list : List ℕ) (entries : List Entry) (hart met place end : ℕ) (e : Entry) (b : Bool) → AgreesFrom list entries hart met place end → place < end → slice_get entries place ≡ Some e → b ≡ is_of hart e → b ≡ true → met < length list → (get_or list met 0 ≡ place → ⊥) → IsTrue false ↔ (list ≡ own_places entries hart)
another_there list entries hart met place end e b same lt there is own below differs =
    let rest = begins entries hart place end true lt (passes entries hart place e true there (sym own ∙ is)) in
    (λ h. absurd (false_is_not h), λ o. absurd (differs (same_first (get_or list met 0) place (drop (suc met) list) (own_from entries hart (place + 1) end) (sym (drop_one list met below) ∙ same.0 o ∙ rest))))

none_left : (entries : List Entry) (hart place end : ℕ) → end ≤ place → own_from entries hart place end ≡ []
none_left entries hart place end past = (let none : end - place ≡ 0 = omega arith in ap (λ (n : ℕ). filter (is_own_place entries hart) (range_with_len place n)) none)

eq_is : (a b : ℕ) → IsTrue (a == b) → a ≡ b
eq_is a b h = grind (arith, nat_tests)

is_eq : (a b : ℕ) → a ≡ b → IsTrue (a == b)
is_eq a b h = grind (arith, nat_tests)

all_dropped : (xs : List ℕ) (n : ℕ) → drop n xs ≡ [] → n ≤ length xs → n ≡ length xs
all_dropped xs n none at_most =
    elim (cases_lt n (length xs)) [
      | inl lt ↦ absurd (no_place (get_or xs n 0) (drop (suc n) xs) (sym none ∙ drop_one xs n lt))
      | inr ge ↦ omega arith
    ]

pub agrees_at_end : (list : List ℕ) (entries : List Entry) (hart met place end : ℕ) (b : Bool) → AgreesFrom list entries hart met place end → end ≤ place → met ≤ length list → b ≡ (met == length list) → IsTrue b ↔ (list ≡ own_places entries hart)
agrees_at_end list entries hart met place end b same past at_most is =
    let rest = none_left entries hart place end past in (
      λ h. (let all = eq_is met (length list) (subst IsTrue is h) in same.1 (drop_past list met (omega arith) ∙ sym rest)),
      λ o. subst IsTrue (sym is) (is_eq met (length list) (all_dropped list met (same.0 o ∙ rest) at_most)),
    )

-- ---- the harts in turn

pub at_map : {V : Type 0} → (f : V → List ℕ) (vs : List V) (k : ℕ) (v d : V) → k < length vs → v ≡ get_or vs k d → slice_get (map f vs) k ≡ Some (f v)
at_map f [] k v d below is = absurd (omega arith)
at_map f (x ∷ xs) zero v d below is = ap (λ y. Some (f y)) (sym is)
at_map f (x ∷ xs) (suc k) v d below is = at_map f xs k v d (omega arith) is

not_both : (b : Bool) → IsTrue b → b ≡ false → ⊥
not_both b h no_more = false_is_not (subst IsTrue no_more h)

pub stray_is : (core : Stored) (lists : List (List ℕ)) (hart : ℕ) (list here : List ℕ) (b : Bool) → slice_get lists hart ≡ Some list → here ≡ list → IsTrue b ↔ IsOwn core hart here → b ≡ false → ((other : ℕ) (l : List ℕ) → other < hart → slice_get lists other ≡ Some l → IsOwn core other l) → IsLeastStray core lists hart
stray_is core lists hart list here b there same own fails before = record {
  list = list;
  is_there = there;
  fails = λ is. not_both b (own.1 (subst (IsOwn core hart) (sym same) is)) fails;
  least = before;
}

same_list : (x y : List ℕ) → Some x ≡ Some y → x ≡ y
same_list x y h = cc

pub one_more_own : (core : Stored) (lists : List (List ℕ)) (hart : ℕ) (list here : List ℕ) (b : Bool) → slice_get lists hart ≡ Some list → here ≡ list → IsTrue b ↔ IsOwn core hart here → b ≡ true → ((other : ℕ) (l : List ℕ) → other < hart → slice_get lists other ≡ Some l → IsOwn core other l) → (other : ℕ) (l : List ℕ) → other < hart + 1 → slice_get lists other ≡ Some l → IsOwn core other l
one_more_own core lists hart list here b there same own holds before other l below at =
    elim (cases_lt other hart) [
      | inl lt ↦ before other l lt at
      | inr ge ↦ (let is : hart ≡ other = omega arith in
          let this : list ≡ l = same_list list l (sym there ∙ ap (slice_get lists) is ∙ at) in
          subst (λ (n : ℕ). IsOwn core n l) is (subst (IsOwn core hart) (same ∙ this) (own.0 holds)))
    ]

pub all_own : {V : Type 0} → (f : V → List ℕ) (core : Stored) (vs : List V) (count : ℕ) → length vs ≤ count → ((other : ℕ) (l : List ℕ) → other < count → slice_get (map f vs) other ≡ Some l → IsOwn core other l) → AreOwn core (map f vs)
all_own f core vs count past before hart l at =
    before hart l (let within = slice_get_within (map f vs) hart l at in let same = length-map vs f in omega arith) at
