-- Loops over numbers in a row that pass a test.
use Rattle.std.proofs.Common.{◌≡◌, ℕ, zero, suc, ◌+◌, ◌≤◌, ◌<◌, inl, inr, Bool, true, false, cond, List, ◌∷◌, length, Some, None, refl, sym, ap, subst, ◌∙◌, arith}
use Rattle.std.specs.Prelude.{◌&&◌, ◌||◌, filter, find, slice_get}
use Rattle.std.specs.List.{list_any, range_with_len}
use Rattle.std.proofs.lemmas.Bool.{cases_lt}

or_later : (b c : Bool) → c ≡ true → (b || c) ≡ true
or_later true c h = refl
or_later false c h = h

or_now : (b c : Bool) → b ≡ true → (b || c) ≡ true
or_now true c h = refl
or_now false c h = cc

kept : (b c : Bool) (a : ℕ) (q : ℕ → Bool) (xs : List ℕ) → list_any q xs ≡ true → list_any q (cond b (a ∷ xs) xs) ≡ true
kept true c a q xs h = or_later (q a) (list_any q xs) h
kept false c a q xs h = h

keep : (p q : ℕ → Bool) (a n : ℕ) → list_any q (filter p (range_with_len (a + 1) n)) ≡ true → list_any q (filter p (range_with_len a (suc n))) ≡ true
keep p q a n h = kept (p a) (q a) a q (filter p (range_with_len (a + 1) n)) h

-- one that passes both tests is found
pub any_there : (p q : ℕ → Bool) (a n k : ℕ) → a ≤ k → k < a + n → p k ≡ true → q k ≡ true → list_any q (filter p (range_with_len a n)) ≡ true
any_there p q a zero k lo hi passes answers = absurd (omega arith)
any_there p q a (suc n) k lo hi passes answers =
    elim (cases_lt a k) [
      | inl lt ↦ keep p q a n (any_there p q (a + 1) n k (omega arith) (omega arith) passes answers)
      | inr ge ↦ (let same : k ≡ a = omega arith in
          ap (λ b. list_any q (cond b (a ∷ filter p (range_with_len (a + 1) n)) (filter p (range_with_len (a + 1) n)))) (subst (λ (m : ℕ). p m ≡ true) same passes)
          ∙ or_now (q a) (list_any q (filter p (range_with_len (a + 1) n))) (subst (λ (m : ℕ). q m ≡ true) same answers))
    ]

differ : true ≡ false → ⊥
differ h = cc

both : (b c : Bool) → b ≡ true → c ≡ true → (b && c) ≡ false → ⊥
both true c hb hc h = differ (sym hc ∙ h)
both false c hb hc h = differ (sym hb)

neither : (p q : ℕ → Bool) (a n : ℕ) (b c : Bool) → p a ≡ b → q a ≡ c → (q a && p a) ≡ false → list_any q (filter p (range_with_len (a + 1) n)) ≡ false → list_any q (filter p (range_with_len a (suc n))) ≡ false
neither p q a n false c pa qa fails rest = ap (λ v. list_any q (cond v (a ∷ filter p (range_with_len (a + 1) n)) (filter p (range_with_len (a + 1) n)))) pa ∙ rest
neither p q a n true false pa qa fails rest =
    ap (λ v. list_any q (cond v (a ∷ filter p (range_with_len (a + 1) n)) (filter p (range_with_len (a + 1) n)))) pa ∙ ap (λ v. v || list_any q (filter p (range_with_len (a + 1) n))) qa ∙ rest
neither p q a n true true pa qa fails rest = absurd (both (q a) (p a) qa pa fails)

pub none_there : (p q : ℕ → Bool) (a n : ℕ) → ((k : ℕ) → a ≤ k → k < a + n → (q k && p k) ≡ false) → list_any q (filter p (range_with_len a n)) ≡ false
none_there p q a zero fails = refl
none_there p q a (suc n) fails = neither p q a n (p a) (q a) refl refl (fails a (omega arith) (omega arith)) (none_there p q (a + 1) n (λ k lo hi. fails k (omega arith) (omega arith)))

pub find_here : (p : ℕ → Bool) (a n k : ℕ) → a ≤ k → k < a + n → p k ≡ true → ((j : ℕ) → a ≤ j → j < k → p j ≡ false) → find p (range_with_len a n) ≡ Some k
find_here p a zero k lo hi passes before = absurd (omega arith)
find_here p a (suc n) k lo hi passes before =
    elim (cases_lt a k) [
      | inl lt ↦ ap (λ b. cond b (Some a) (find p (range_with_len (a + 1) n))) (before a (omega arith) lt) ∙ find_here p (a + 1) n k (omega arith) (omega arith) passes (λ j lo below. before j (omega arith) below)
      | inr ge ↦ (let same : k ≡ a = omega arith in
          ap (λ b. cond b (Some a) (find p (range_with_len (a + 1) n))) (subst (λ (m : ℕ). p m ≡ true) same passes) ∙ ap Some (sym same))
    ]

pub find_none : (p : ℕ → Bool) (a n : ℕ) → ((j : ℕ) → a ≤ j → j < a + n → p j ≡ false) → find p (range_with_len a n) ≡ None
find_none p a zero fails = refl
find_none p a (suc n) fails =
    ap (λ b. cond b (Some a) (find p (range_with_len (a + 1) n))) (fails a (omega arith) (omega arith)) ∙ find_none p (a + 1) n (λ j lo hi. fails j (omega arith) (omega arith))

at_most : (a n : ℕ) (b : Bool) (xs : List ℕ) → length xs ≤ n → length (cond b (a ∷ xs) xs) ≤ suc n
at_most a n true xs h = omega arith
at_most a n false xs h = omega arith

pub count_bound : (p : ℕ → Bool) (a n : ℕ) → length (filter p (range_with_len a n)) ≤ n
count_bound p a zero = omega arith
count_bound p a (suc n) = at_most a n (p a) (filter p (range_with_len (a + 1) n)) (count_bound p (a + 1) n)

-- ---- one that passes, by its index

pub record IsAmong (p : ℕ → Bool) (a n k : ℕ) : Type 0 where
  pub passes : p k ≡ true
  pub from : a ≤ k
  pub below : k < a + n

deeper : (p : ℕ → Bool) (a n k : ℕ) → IsAmong p (a + 1) n k → IsAmong p a (suc n) k
deeper p a n k w = let from = w.from in let below = w.below in record { passes = w.passes; from = omega arith; below = omega arith }

same_number : (a k : ℕ) → Some a ≡ Some k → a ≡ k
same_number a k h = cc

first_or_later : (p : ℕ → Bool) (a n i k : ℕ) → p a ≡ true → ((j : ℕ) → slice_get (filter p (range_with_len (a + 1) n)) j ≡ Some k → IsAmong p (a + 1) n k) → slice_get (a ∷ filter p (range_with_len (a + 1) n)) i ≡ Some k → IsAmong p a (suc n) k
first_or_later p a n zero k here later there =
    let same : a ≡ k = same_number a k there in
    record { passes = subst (λ (m : ℕ). p m ≡ true) same here; from = omega arith; below = omega arith }
first_or_later p a n (suc i) k here later there = deeper p a n k (later i there)

pub kept_by_filter : (p : ℕ → Bool) (a n i k : ℕ) → slice_get (filter p (range_with_len a n)) i ≡ Some k → IsAmong p a n k
kept_by_filter p a zero i k h = cc
kept_by_filter p a (suc n) i k h =
    elim (p a) as (λ b. p a ≡ b → slice_get (cond b (a ∷ filter p (range_with_len (a + 1) n)) (filter p (range_with_len (a + 1) n))) i ≡ Some k → IsAmong p a (suc n) k) [
      | true ↦ λ e there. first_or_later p a n i k e (λ j later. kept_by_filter p (a + 1) n j k later) there
      | false ↦ λ e there. deeper p a n k (kept_by_filter p (a + 1) n i k there)
    ] refl h

-- ---- what is found

here_or_later : (p : ℕ → Bool) (a n k : ℕ) → p a ≡ false → (a + 1 ≤ k → p k ≡ false) → a ≤ k → p k ≡ false
here_or_later p a n k here later lo =
    elim (cases_lt a k) [
      | inl lt ↦ later (omega arith)
      | inr ge ↦ (let same : a ≡ k = omega arith in subst (λ (m : ℕ). p m ≡ false) same here)
    ]

pub none_found : (p : ℕ → Bool) (a n k : ℕ) → find p (range_with_len a n) ≡ None → a ≤ k → k < a + n → p k ≡ false
none_found p a zero k h lo hi = absurd (omega arith)
none_found p a (suc n) k h lo hi =
    elim (p a) as (λ b. p a ≡ b → cond b (Some a) (find p (range_with_len (a + 1) n)) ≡ None → p k ≡ false) [
      | true ↦ λ e found. cc
      | false ↦ λ e found. here_or_later p a n k e (λ later. none_found p (a + 1) n k found later (omega arith)) lo
    ] refl h

found_here : (a place : ℕ) → Some a ≡ Some place → a ≡ place
found_here a place h = cc

pub find_within : (p : ℕ → Bool) (a n place : ℕ) → find p (range_with_len a n) ≡ Some place → IsAmong p a n place
find_within p a zero place h = cc
find_within p a (suc n) place h =
    elim (p a) as (λ b. p a ≡ b → cond b (Some a) (find p (range_with_len (a + 1) n)) ≡ Some place → IsAmong p a (suc n) place) [
      | true ↦ λ e found. let same : a ≡ place = found_here a place found in record { passes = ap p (sym same) ∙ e; from = omega arith; below = omega arith }
      | false ↦ λ e found. let w = find_within p (a + 1) n place found in let from = w.from in let below = w.below in record { passes = w.passes; from = omega arith; below = omega arith }
    ] refl h
