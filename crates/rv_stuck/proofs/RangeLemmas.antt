-- A range stands in its place.
use Rattle.std.proofs.Common.{◌≡◌, ℕ, suc, ◌+◌, Bool, true, false, cond, Option, Some, None, List, [], ◌∷◌, ◌++◌, take, drop, refl, sym, ap, subst, ◌∙◌, arith}
use Rattle.std.specs.Prelude.{if◌then◌else◌, slice_get, IfSome, IsSomeAnd}
use Rattle.std.specs.List.{insert, prefix_len}
use Rattle.rv_waits.specs.declared.touched.Range.{Range}
use Rattle.rv_stuck.specs.Acts.{is_before, with_range}

-- how many of the first ranges are before this one
abbrev pub place_in : Range → List Range → ℕ
place_in range ranges = prefix_len (λ other. is_before other range) ranges

-- the range among others whose first is x, by whether x is before it and it before x
abbrev pub placed : Bool → Bool → Range → Range → List Range → List Range → List Range
placed after before range x more xs = if after then x ∷ more else (if before then range ∷ x ∷ xs else x ∷ xs)

abbrev InsertedAt : Range → List Range → ℕ → List Range → Type 0
InsertedAt range xs k new = new ≡ take k xs ++ range ∷ drop k xs

new_step : (after before : Bool) (range x : Range) (more xs : List Range) (k m : ℕ) → m ≡ suc k → (after ≡ true → InsertedAt range xs k more) → (after ≡ false → before ≡ true) → InsertedAt range (x ∷ xs) (cond after m 0) (placed after before range x more xs)
new_step true before range x more xs k m e deeper here =
    subst (λ (n : ℕ). InsertedAt range (x ∷ xs) n (x ∷ more)) (sym e) (ap (λ (l : List Range). x ∷ l) (deeper refl))
new_step false true range x more xs k m e deeper here = refl
new_step false false range x more xs k m e deeper here = let f : false ≡ true = here refl in cc

-- after the first element that is not before it
next_is : (after : Bool) (x y : Range) (xs : List Range) (k m : ℕ) → m ≡ suc k → after ≡ true → slice_get xs k ≡ Some y → slice_get (x ∷ xs) (cond after m 0) ≡ Some y
next_is true x y xs k m e is there = subst (λ (n : ℕ). slice_get (x ∷ xs) n ≡ Some y) (sym e) there
next_is false x y xs k m e is there = cc

first_is : (after : Bool) (x : Range) (xs : List Range) (m : ℕ) → after ≡ false → slice_get (x ∷ xs) (cond after m 0) ≡ Some x
first_is true x xs m e = cc
first_is false x xs m e = refl

one_more : (k : ℕ) → 1 + k ≡ suc k
one_more k = omega arith

-- where the range at its place is after it, it is put there
put_new : (range : Range) (xs : List Range) → ((x : Range) → slice_get xs (place_in range xs) ≡ Some x → is_before range x ≡ true) → InsertedAt range xs (place_in range xs) (with_range range xs)
put_new range [] after = refl
put_new range (x ∷ xs) after =
    let k : ℕ = place_in range xs in
    new_step (is_before x range) (is_before range x) range x (with_range range xs) xs k (1 + k) (one_more k) (λ e. put_new range xs (λ y there. after y (next_is (is_before x range) x y xs k (1 + k) (one_more k) e there))) (λ e. after x (first_is (is_before x range) x xs (1 + k) e))

old_step : (after before : Bool) (range x y : Range) (more xs : List Range) (k m : ℕ) → m ≡ suc k → (after ≡ true → slice_get xs k ≡ Some y → more ≡ xs) → (x ≡ y → before ≡ false) → slice_get (x ∷ xs) (cond after m 0) ≡ Some y → placed after before range x more xs ≡ x ∷ xs
old_step true before range x y more xs k m e deeper here there =
    ap (λ (l : List Range). x ∷ l) (deeper refl (subst (λ (n : ℕ). slice_get (x ∷ xs) n ≡ Some y) e there))
old_step false true range x y more xs k m e deeper here there = let same : x ≡ y = cc in let f : true ≡ false = here same in cc
old_step false false range x y more xs k m e deeper here there = refl

-- where neither is before the other, it is there
put_old : (range y : Range) (xs : List Range) → slice_get xs (place_in range xs) ≡ Some y → is_before range y ≡ false → with_range range xs ≡ xs
put_old range y [] there same = cc
put_old range y (x ∷ xs) there same =
    let k : ℕ = place_in range xs in
    old_step (is_before x range) (is_before range x) range x y (with_range range xs) xs k (1 + k) (one_more k) (λ e deeper. put_old range y xs deeper same) (λ e. ap (is_before range) e ∙ same) there

some_and : (o : Option Range) (P : Range → Type 0) → IsSomeAnd o P → (x : Range) × (o ≡ Some x) × P x
some_and None P is = absurd is
some_and (Some x) P is = (x, refl, is)

if_some : (o : Option Range) (P : Range → Type 0) (x : Range) → IfSome o P → o ≡ Some x → P x
if_some o P x is e = subst (λ (a : Option Range). IfSome a P) e is

pub stays : (range : Range) (xs : List Range) (k : ℕ) → k ≡ place_in range xs → IsSomeAnd (slice_get xs k) (λ there. is_before range there ≡ false) → xs ≡ with_range range xs
stays range xs k at is =
    let found = some_and (slice_get xs k) (λ there. is_before range there ≡ false) is in
    sym (put_old range found.0 xs (ap (slice_get xs) (sym at) ∙ found.1) found.2)

pub inserted : (range : Range) (xs : List Range) (k : ℕ) → k ≡ place_in range xs → IfSome (slice_get xs k) (λ there. is_before range there ≡ true) → insert xs k range ≡ with_range range xs
inserted range xs k at is =
    let new : InsertedAt range xs (place_in range xs) (with_range range xs) = put_new range xs (λ x there. if_some (slice_get xs k) (λ there. is_before range there ≡ true) x is (ap (slice_get xs) at ∙ there)) in
    sym (subst (λ (n : ℕ). InsertedAt range xs n (with_range range xs)) (sym at) new)
