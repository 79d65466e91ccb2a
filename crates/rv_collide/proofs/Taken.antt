-- A hart's open pause by its place among the open ones, and those that are left without it.
use Rattle.std.proofs.Common.{◌≡◌, ℕ, zero, suc, ◌+◌, ◌<◌, Bool, true, false, cond, List, [], ◌∷◌, length, get_or, map, Option, Some, None, refl, sym, ap, ap₂, subst, ◌∙◌, arith}
use Rattle.std.specs.Prelude.{◌==◌, ◌||◌, not, nat_lt, find, filter, is_some, position, remove}
use Rattle.std.specs.List.{list_any, position_from, position_or_len}
use Rattle.std.proofs.lemmas.Iterator.Adapters.{position_from-zero}
use Rattle.std.proofs.lemmas.Bool.Decides.{nat_tests}
use Rattle.std.proofs.lemmas.List.{length-map}
use Rattle.std.proofs.lemmas.List.Quantifiers.{position-Some}
use Rattle.rv_collide.specs.Pause.{Opening, opening_of, openings}
use Rattle.rv_collide.specs.declared.entry.Entry.{Entry}
use Rattle.rv_collide.specs.declared.open_pause.OpenPause.{OpenPause}
use Rattle.rv_collide.specs.internal.Core.{AreApart, opening}
use Rattle.rv_collide.proofs.LawLemmas.{some_same}

first_of_openings : (h : ℕ) (ps : List OpenPause) → position_or_len (λ (o : Opening). o.hart == h) (map opening ps) ≡ position_or_len (λ (p : OpenPause). p.hart == h) ps
first_of_openings h [] = refl
first_of_openings h (p ∷ ps) = ap (λ n. cond (not (p.hart == h)) (1 + n) 0) (first_of_openings h ps)

pub place_kept : (xs : List Entry) (ps : List OpenPause) (h : ℕ) → map opening ps ≡ openings xs → position (λ (p : OpenPause). p.hart == h) ps ≡ position (λ (o : Opening). o.hart == h) (openings xs)
place_kept xs ps h are =
    sym (ap₂ (λ (n size : ℕ). cond (nat_lt n size) (Some n) None) (first_of_openings h ps) (length-map ps opening))
    ∙ ap (position (λ (o : Opening). o.hart == h)) are

module _ (h : ℕ) where
  find_first : (ps : List OpenPause) (i : ℕ) (d : OpenPause) → i < length ps → ((get_or ps i d).hart == h) ≡ true → ((k : ℕ) → k < i → ((get_or ps k d).hart == h) ≡ false) → find (λ (p : OpenPause). p.hart == h) ps ≡ Some (get_or ps i d)
  find_first [] i d within here before = absurd (omega arith)
  find_first (p ∷ ps) zero d within here before = ap (λ b. cond b (Some p) (find (λ (q : OpenPause). q.hart == h) ps)) here
  find_first (p ∷ ps) (suc i) d within here before =
      ap (λ b. cond b (Some p) (find (λ (q : OpenPause). q.hart == h) ps)) (before 0 (omega arith))
      ∙ find_first ps i d (omega arith) here (λ k below. before (suc k) (omega arith))

  or_false : (b c : Bool) → (b || c) ≡ false → (b ≡ false) × (c ≡ false)
  or_false false c e = (refl, e)
  or_false true c e = cc

  all_others : (ps : List OpenPause) → list_any (λ (o : Opening). o.hart == h) (map opening ps) ≡ false → filter (λ (p : OpenPause). not (p.hart == h)) ps ≡ ps
  all_others [] none = refl
  all_others (p ∷ ps) none =
      let e = or_false (p.hart == h) (list_any (λ (o : Opening). o.hart == h) (map opening ps)) none in
      ap (λ b. cond (not b) (p ∷ filter (λ (q : OpenPause). not (q.hart == h)) ps) (filter (λ (q : OpenPause). not (q.hart == h)) ps)) e.0
      ∙ ap (λ qs. p ∷ qs) (all_others ps e.1)

  same_hart : (k : ℕ) → (k == h) ≡ true → k ≡ h
  same_hart k e = grind (arith, nat_tests)

  -- no two open pauses are of one hart
  only_one : (ps : List OpenPause) (i : ℕ) (d : OpenPause) → AreApart (map opening ps) → i < length ps → ((get_or ps i d).hart == h) ≡ true → ((k : ℕ) → k < i → ((get_or ps k d).hart == h) ≡ false) → remove ps i ≡ filter (λ (p : OpenPause). not (p.hart == h)) ps
  only_one [] i d apart within here before = absurd (omega arith)
  only_one (p ∷ ps) zero d apart within here before =
      sym (ap (λ b. cond (not b) (p ∷ filter (λ (q : OpenPause). not (q.hart == h)) ps) (filter (λ (q : OpenPause). not (q.hart == h)) ps)) here
      ∙ all_others ps (ap (λ k. list_any (λ (o : Opening). o.hart == k) (map opening ps)) (sym (same_hart p.hart here)) ∙ apart.0))
  only_one (p ∷ ps) (suc i) d apart within here before =
      ap (λ qs. p ∷ qs) (only_one ps i d apart.2 (omega arith) here (λ k below. before (suc k) (omega arith)))
      ∙ sym (ap (λ b. cond (not b) (p ∷ filter (λ (q : OpenPause). not (q.hart == h)) ps) (filter (λ (q : OpenPause). not (q.hart == h)) ps)) (before 0 (omega arith)))

pub found_at : (ps : List OpenPause) (h i : ℕ) (d : OpenPause) → position (λ (p : OpenPause). p.hart == h) ps ≡ Some i → find (λ (p : OpenPause). p.hart == h) ps ≡ Some (get_or ps i d)
found_at ps h i d placed =
    let found = position-Some (λ (p : OpenPause). p.hart == h) ps i d placed in
    find_first h ps i d found.0 found.1 found.2

some_both : {X : Type 0} (t : X → Bool) (i : ℕ) (xs : List X) → is_some (find t xs) ≡ is_some (position_from t i xs)
some_both t i [] = refl
some_both t i (x ∷ xs) = elim (t x) as (λ b. is_some (cond b (Some x) (find t xs)) ≡ is_some (cond b (Some i) (position_from t (i + 1) xs))) [ true ↦ refl | false ↦ some_both t (i + 1) xs ]

found_if_placed : {X : Type 0} (t : X → Bool) (xs : List X) → is_some (find t xs) ≡ is_some (position t xs)
found_if_placed t xs = some_both t 0 xs ∙ ap is_some (sym (position_from-zero t xs))

none_from : (o : Option OpenPause) → is_some o ≡ false → o ≡ None
none_from None h = refl
none_from (Some p) h = cc

pub found_nowhere : (ps : List OpenPause) (h : ℕ) → position (λ (p : OpenPause). p.hart == h) ps ≡ None → find (λ (p : OpenPause). p.hart == h) ps ≡ None
found_nowhere ps h none =
    none_from (find (λ (p : OpenPause). p.hart == h) ps) (found_if_placed (λ (p : OpenPause). p.hart == h) ps ∙ ap is_some none)

-- the hart is paused exactly where its open pause has a place
pub is_open : (xs : List Entry) (h : ℕ) (place o : Option ℕ) → place ≡ position (λ (p : Opening). p.hart == h) (openings xs) → place ≡ o → is_some (opening_of xs h) ≡ is_some o
unfolding opening_of
is_open xs h place o is known = found_if_placed (λ (p : Opening). p.hart == h) (openings xs) ∙ ap is_some (sym is ∙ known)

pub record IsTaken (opened left : List OpenPause) (h : ℕ) (p : OpenPause) : Type 0 where
  pub pause : find (λ (q : OpenPause). q.hart == h) opened ≡ Some p
  pub others : left ≡ filter (λ (q : OpenPause). not (q.hart == h)) opened

some_below : (n size i : ℕ) → cond (nat_lt n size) (Some n) None ≡ Some i → i < size
some_below n size i h =
    elim (nat_lt n size) as (λ b. nat_lt n size ≡ b → cond b (Some n) None ≡ Some i → i < size) [
      | true ↦ λ below e. let same : n ≡ i = some_same n i e in grind (arith, nat_tests)
      | false ↦ λ _ e. cc
    ] refl h

pub within_opened : (xs : List Entry) (opened : List OpenPause) (h i : ℕ) → map opening opened ≡ openings xs → position (λ (o : Opening). o.hart == h) (openings xs) ≡ Some i → i < length opened
within_opened xs opened h i are placed =
    some_below (position_or_len (λ (p : OpenPause). p.hart == h) opened) (length opened) i (place_kept xs opened h are ∙ placed)

pub taken : (xs : List Entry) (opened left : List OpenPause) (h i : ℕ) (p : OpenPause) → map opening opened ≡ openings xs → AreApart (openings xs) → position (λ (o : Opening). o.hart == h) (openings xs) ≡ Some i → p ≡ get_or opened i p → left ≡ remove opened i → IsTaken opened left h p
taken xs opened left h i p are apart placed is without =
    let at = place_kept xs opened h are ∙ placed in
    let found = position-Some (λ (q : OpenPause). q.hart == h) opened i p at in
    record {
      pause = found_at opened h i p at ∙ ap Some (sym is);
      others = without ∙ only_one h opened i p (subst AreApart (sym are) apart) found.0 found.1 found.2;
    }
