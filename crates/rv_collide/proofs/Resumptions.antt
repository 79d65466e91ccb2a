-- The slots and open pauses after a resumption.
use Rattle.std.proofs.Common.{◌≡◌, ◌≢◌, ℕ, Bool, true, false, cond, List, [], ◌∷◌, ◌++◌, Option, Some, None, set, refl, sym, ap, subst, ◌∙◌, arith, zero-add}
use Rattle.std.specs.Prelude.{◌==◌, ◌||◌, not, find, filter, option_and_then, option_map}
use Rattle.std.specs.List.{list_any}
use Rattle.std.specs.Option.{option_map_or}
use Rattle.std.proofs.lemmas.Bool.Decides.{nat_tests}
use Rattle.std.proofs.lemmas.List.Folds.{list_any-append}
use Rattle.rv_collide.specs.Pause.{Opening, opening_of, openings}
use Rattle.rv_collide.specs.declared.entry.Entry.{Entry}
use Rattle.rv_collide.specs.declared.entry.Entry.TheVariants.{Resumed}
use Rattle.rv_collide.specs.internal.Core.{AreApart, claim_of, is_at, is_in, slot_at, slots_of}
use Rattle.rv_hart.specs.State.{State}
use Rattle.rv_collide.proofs.LawLemmas.{some_same}
use Rattle.rv_collide.proofs.Lists.{map_range_all, set_range}
use Rattle.rv_collide.proofs.Openings.{openings_resume, without_hart}
use Rattle.rv_collide.proofs.Places.{shown}
use Rattle.rv_collide.proofs.Slots.{found_push, map_none, seen_none}

never : {P : Type 0} → true ≡ false → P
never h = cc

same_number : (a b : ℕ) → (a == b) ≡ true → a ≡ b
same_number a b h = grind (arith, nat_tests)

or_parts : (b c : Bool) → (b || c) ≡ false → (b ≡ false) × (c ≡ false)
or_parts false c h = (refl, h)
or_parts true c h = cc

slot_of : (slot : Option ℕ) (j : ℕ) → option_map_or (λ other. other == j) slot false ≡ true → slot ≡ Some j
slot_of None j h = cc
slot_of (Some other) j h = ap Some (same_number other j h)

none_found : (t : Opening → Bool) (os : List Opening) → list_any t os ≡ false → find t os ≡ None
none_found t [] h = refl
none_found t (x ∷ os) h = let p = or_parts (t x) (list_any t os) h in rw (p.0) (none_found t os p.1)

or_true : (b c : Bool) → c ≡ true → (b || c) ≡ true
or_true true c h = refl
or_true false c h = h

any_found : (t u : Opening → Bool) (os : List Opening) (o : Opening) → find t os ≡ Some o → u o ≡ true → list_any u os ≡ true
any_found t u [] o found is = cc
any_found t u (x ∷ os) o found is =
    elim (t x) as (λ b. cond b (Some x) (find t os) ≡ Some o → (u x || list_any u os) ≡ true) [
      | true ↦ λ e. ap (λ b. b || list_any u os) (ap u (some_same x o e) ∙ is)
      | false ↦ λ e. or_true (u x) (list_any u os) (any_found t u os o e is)
    ] found

keeps_all : (h : ℕ) (os : List Opening) → list_any (λ (p : Opening). p.hart == h) os ≡ false → without_hart h os ≡ os
keeps_all h [] none = refl
keeps_all h (x ∷ os) none = let p = or_parts (x.hart == h) (list_any (λ (p : Opening). p.hart == h) os) none in rw (p.0) (ap (λ ys. x ∷ ys) (keeps_all h os p.1))

in_slot : (slot : Option ℕ) (os : List Opening) (j : ℕ) → is_in slot os ≡ false → option_map_or (λ other. other == j) slot false ≡ true → list_any (is_at j) os ≡ false
in_slot slot os j none at = subst (λ (s : Option ℕ). is_in s os ≡ false) (slot_of slot j at) none

first_gone : (j : ℕ) (x : Opening) (os : List Opening) → is_in x.slot os ≡ false → find (is_at j) os ≡ cond (is_at j x) None (cond (is_at j x) (Some x) (find (is_at j) os))
first_gone j x os none =
    elim (is_at j x) as (λ b. is_at j x ≡ b → find (is_at j) os ≡ cond b None (cond b (Some x) (find (is_at j) os))) [
      | true ↦ λ at. none_found (is_at j) os (in_slot x.slot os j none at)
      | false ↦ λ at. refl
    ] refl

later_gone : (j : ℕ) (x o : Opening) (os : List Opening) → (is_at j x ≡ true → list_any (is_at j) os ≡ false) → (is_at j o ≡ true → list_any (is_at j) os ≡ true) → cond (is_at j x) (Some x) (cond (is_at j o) None (find (is_at j) os)) ≡ cond (is_at j o) None (cond (is_at j x) (Some x) (find (is_at j) os))
later_gone j x o os alone has =
    elim (is_at j x) as (λ b. is_at j x ≡ b → cond b (Some x) (cond (is_at j o) None (find (is_at j) os)) ≡ cond (is_at j o) None (cond b (Some x) (find (is_at j) os))) [
      | true ↦ λ at. elim (is_at j o) as (λ c. is_at j o ≡ c → Some x ≡ cond c None (Some x)) [ true ↦ λ there. never (sym (has there) ∙ alone at) | false ↦ λ there. refl ] refl
      | false ↦ λ at. refl
    ] refl

-- what watches what, without the pause of a hart
find_without : (h j : ℕ) (os : List Opening) (o : Opening) → AreApart os → find (λ (p : Opening). p.hart == h) os ≡ Some o → find (is_at j) (without_hart h os) ≡ cond (is_at j o) None (find (is_at j) os)
find_without h j [] o apart found = cc
find_without h j (x ∷ os) o apart found =
    elim (x.hart == h) as (λ b. (x.hart == h) ≡ b → cond b (Some x) (find (λ (p : Opening). p.hart == h) os) ≡ Some o → find (is_at j) (cond (not b) (x ∷ without_hart h os) (without_hart h os)) ≡ cond (is_at j o) None (cond (is_at j x) (Some x) (find (is_at j) os))) [
      | true ↦ λ own e.
          let same : x ≡ o = some_same x o e in
          ap (find (is_at j)) (keeps_all h os (ap (λ k. list_any (λ (p : Opening). p.hart == k) os) (sym (same_number x.hart h own)) ∙ apart.0))
          ∙ first_gone j x os apart.1
          ∙ ap (λ (p : Opening). cond (is_at j p) None (cond (is_at j x) (Some x) (find (is_at j) os))) same
      | false ↦ λ other e.
          ap (cond (is_at j x) (Some x)) (find_without h j os o apart.2 e)
          ∙ later_gone j x o os (λ at. in_slot x.slot os j apart.1 at) (λ at. any_found (λ (p : Opening). p.hart == h) (is_at j) os o e at)
    ] refl found

find_of_slot : (h j : ℕ) (os : List Opening) (o : Opening) → AreApart os → find (λ (p : Opening). p.hart == h) os ≡ Some o → is_at j o ≡ true → find (is_at j) os ≡ Some o
find_of_slot h j [] o apart found at = cc
find_of_slot h j (x ∷ os) o apart found at =
    elim (x.hart == h) as (λ b. cond b (Some x) (find (λ (p : Opening). p.hart == h) os) ≡ Some o → cond (is_at j x) (Some x) (find (is_at j) os) ≡ Some o) [
      | true ↦ λ e. ap (λ b. cond b (Some x) (find (is_at j) os)) (ap (is_at j) (some_same x o e) ∙ at) ∙ e
      | false ↦ λ e.
          elim (is_at j x) as (λ c. is_at j x ≡ c → cond c (Some x) (find (is_at j) os) ≡ Some o) [
            | true ↦ λ mine. never (sym (any_found (λ (p : Opening). p.hart == h) (is_at j) os o e at) ∙ in_slot x.slot os j apart.1 mine)
            | false ↦ λ mine. find_of_slot h j os o apart.2 e at
          ] refl
    ] found

-- ---- slots

resumed_slot : (start : State) (xs : List Entry) (h j : ℕ) (o : Opening) → AreApart (openings xs) → opening_of xs h ≡ Some o → slot_at start (xs ++ Resumed h ∷ []) j ≡ cond (is_at j o) None (slot_at start xs j)
unfolding slot_at opening_of openings
resumed_slot start xs h j o apart found =
    ap (λ os. option_and_then (claim_of start (xs ++ Resumed h ∷ [])) (find (is_at j) os)) (openings_resume 0 h xs)
    ∙ ap (option_and_then (claim_of start (xs ++ Resumed h ∷ []))) (find_without h j (openings xs) o apart found)
    ∙ elim (is_at j o) as (λ b. option_and_then (claim_of start (xs ++ Resumed h ∷ [])) (cond b None (find (is_at j) (openings xs))) ≡ cond b None (option_and_then (claim_of start xs) (find (is_at j) (openings xs)))) [
      | true ↦ refl
      | false ↦ found_push start xs (Resumed h) (is_at j)
          ∙ ap (λ s. option_map (shown s) (option_and_then (claim_of start xs) (find (is_at j) (openings xs)))) (seen_none start xs (Resumed h) refl)
          ∙ map_none (option_and_then (claim_of start xs) (find (is_at j) (openings xs)))
    ]

pub slots_resume_none : (slot_count : ℕ) (start : State) (xs : List Entry) (h : ℕ) (o : Opening) → AreApart (openings xs) → opening_of xs h ≡ Some o → o.slot ≡ None → slots_of slot_count start (xs ++ Resumed h ∷ []) ≡ slots_of slot_count start xs
unfolding slots_of
slots_resume_none slot_count start xs h o apart found none =
    map_range_all (slot_at start (xs ++ Resumed h ∷ [])) (slot_at start xs) 0 slot_count
    (λ j. resumed_slot start xs h j o apart found ∙ ap (λ s. cond (option_map_or (λ other. other == j) s false) None (slot_at start xs j)) none)

eq_itself : (a : ℕ) → (a == a) ≡ true
eq_itself a = grind (arith, nat_tests)

eq_other : (a b : ℕ) → b ≢ a → (a == b) ≡ false
eq_other a b ne = grind (arith, nat_tests)

pub slots_resume : (slot_count : ℕ) (start : State) (xs : List Entry) (h slot : ℕ) (o : Opening) → AreApart (openings xs) → opening_of xs h ≡ Some o → o.slot ≡ Some slot → slots_of slot_count start (xs ++ Resumed h ∷ []) ≡ set (slots_of slot_count start xs) slot None
unfolding slots_of
slots_resume slot_count start xs h slot o apart found is =
    sym (set_range (slot_at start xs) (slot_at start (xs ++ Resumed h ∷ [])) 0 slot_count slot None
    (ap (slot_at start (xs ++ Resumed h ∷ [])) (zero-add slot) ∙ resumed_slot start xs h slot o apart found
    ∙ ap (λ s. cond (option_map_or (λ other. other == slot) s false) None (slot_at start xs slot)) is ∙ ap (λ b. cond b None (slot_at start xs slot)) (eq_itself slot))
    (λ j ne. resumed_slot start xs h j o apart found
    ∙ ap (λ s. cond (option_map_or (λ other. other == j) s false) None (slot_at start xs j)) is
    ∙ ap (λ b. cond b None (slot_at start xs j)) (eq_other slot j (λ e. ne (e ∙ sym (zero-add slot))))))

-- the claim of an open pause that a slot watches
pub claimed : (start : State) (xs : List Entry) (h slot : ℕ) (o : Opening) → AreApart (openings xs) → opening_of xs h ≡ Some o → o.slot ≡ Some slot → slot_at start xs slot ≡ claim_of start xs o
unfolding slot_at opening_of
claimed start xs h slot o apart found is =
    ap (option_and_then (claim_of start xs)) (find_of_slot h slot (openings xs) o apart found (ap (λ s. option_map_or (λ other. other == slot) s false) is ∙ eq_itself slot))

-- ---- open pauses stay apart

filter_none : (t u : Opening → Bool) (os : List Opening) → list_any t os ≡ false → list_any t (filter u os) ≡ false
filter_none t u [] none = refl
filter_none t u (x ∷ os) none =
    let p = or_parts (t x) (list_any t os) none in
    elim (u x) as (λ b. list_any t (cond b (x ∷ filter u os) (filter u os)) ≡ false) [ true ↦ rw (p.0) (filter_none t u os p.1) | false ↦ filter_none t u os p.1 ]

filter_not_in : (slot : Option ℕ) (u : Opening → Bool) (os : List Opening) → is_in slot os ≡ false → is_in slot (filter u os) ≡ false
filter_not_in None u os none = refl
filter_not_in (Some slot) u os none = filter_none (is_at slot) u os none

pub apart_filter : (u : Opening → Bool) (os : List Opening) → AreApart os → AreApart (filter u os)
apart_filter u [] apart = tt
apart_filter u (x ∷ os) apart =
    elim (u x) as (λ b. AreApart (cond b (x ∷ filter u os) (filter u os))) [
      | true ↦ (filter_none (λ (p : Opening). p.hart == x.hart) u os apart.0, filter_not_in x.slot u os apart.1, apart_filter u os apart.2)
      | false ↦ apart_filter u os apart.2
    ]

none_push : (t : Opening → Bool) (os : List Opening) (o : Opening) → list_any t os ≡ false → t o ≡ false → list_any t (os ++ o ∷ []) ≡ false
none_push t os o none not_o = list_any-append t os (o ∷ []) ∙ rw (none, not_o) refl

eq_back : (a b : ℕ) → (a == b) ≡ false → (b == a) ≡ false
eq_back a b h = grind (arith, nat_tests)

not_at : (slot : ℕ) (x : Opening) (mine : Option ℕ) (os : List Opening) → Some slot ≡ x.slot → is_in mine (x ∷ os) ≡ false → option_map_or (λ other. other == slot) mine false ≡ false
not_at slot x None os is apart = refl
not_at slot x (Some mine) os is apart =
    let p = or_parts (is_at mine x) (list_any (is_at mine) os) apart in
    eq_back slot mine (ap (λ s. option_map_or (λ other. other == mine) s false) is ∙ p.0)

not_in_push : (slot : Option ℕ) (x : Opening) (os : List Opening) (o : Opening) → slot ≡ x.slot → is_in slot os ≡ false → is_in o.slot (x ∷ os) ≡ false → is_in slot (os ++ o ∷ []) ≡ false
not_in_push None x os o is none apart = refl
not_in_push (Some slot) x os o is none apart = none_push (is_at slot) os o none (not_at slot x o.slot os is apart)

not_in_rest : (slot : Option ℕ) (x : Opening) (os : List Opening) → is_in slot (x ∷ os) ≡ false → is_in slot os ≡ false
not_in_rest None x os none = refl
not_in_rest (Some slot) x os none = (or_parts (is_at slot x) (list_any (is_at slot) os) none).1

alone : (slot : Option ℕ) → is_in slot [] ≡ false
alone None = refl
alone (Some slot) = refl

pub apart_push : (os : List Opening) (o : Opening) → AreApart os → list_any (λ (p : Opening). p.hart == o.hart) os ≡ false → is_in o.slot os ≡ false → AreApart (os ++ o ∷ [])
apart_push [] o apart no_hart no_slot = (refl, alone o.slot, tt)
apart_push (x ∷ os) o apart no_hart no_slot =
    let p = or_parts (x.hart == o.hart) (list_any (λ (p : Opening). p.hart == o.hart) os) no_hart in
    (none_push (λ (p : Opening). p.hart == x.hart) os o apart.0 (eq_back x.hart o.hart p.0), not_in_push x.slot x os o refl apart.1 no_slot, apart_push os o apart.2 p.1 (not_in_rest o.slot x os no_slot))
