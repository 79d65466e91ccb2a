-- What stands at addresses one after another.
use Rattle.std.proofs.Common.{◌≡◌, ℕ, zero, suc, ◌+◌, ◌-◌, ◌*◌, ◌≤◌, ◌<◌, Bool, true, false, ◌&&◌, List, [], ◌∷◌, ◌++◌, Option, Some, None, refl, sym, ap, ◌∙◌, arith}
use Rattle.std.specs.Prelude.{if◌then◌else◌, option_and_then, option_map}
use Rattle.std.specs.Option.{IsSome, is_some}
use Rattle.std.proofs.lemmas.List.{append-nil, append_assoc}
use Rattle.rv_asm.specs.Listing.{word_from}
use Rattle.rv_debug.specs.Answers.{line_at, series, word_at}
use Rattle.rv_memory.specs.Memory.{Memory, byte}

module _ {A : Type 0} (at : ℕ → Option A) (step : ℕ) where
  from_first : (a n : ℕ) → 0 < n → series at step a n ≡ option_and_then (λ x. option_map (λ xs. x ∷ xs) (series at step (a + step) (n - 1))) (at a)
  from_first a zero some = absurd (omega arith)
  from_first a (suc n) some = let e : suc n - 1 ≡ n = omega arith in rw e refl

  prepended : (xs : List A) (x : A) (o : Option (List A)) → option_map (λ ys. xs ++ ys) (option_map (λ ys. x ∷ ys) o) ≡ option_map (λ ys. (xs ++ x ∷ []) ++ ys) o
  prepended xs x None = refl
  prepended xs x (Some ys) = ap Some (sym (append_assoc xs (x ∷ []) ys))

  -- some of them stand in a list, and those from `here` on are left
  module _ (here i n : ℕ) (xs : List A) (whole : Option (List A)) (so_far : whole ≡ option_map (λ ys. xs ++ ys) (series at step here (n - i))) where
    next_is : (next : ℕ) → i < n → here + step ≡ next → (o : Option A) → at here ≡ o → whole ≡ option_map (λ ys. xs ++ ys) (option_and_then (λ x. option_map (λ ys. x ∷ ys) (series at step next (n - (i + 1)))) o)
    next_is next lt is_next o is =
        let some : 0 < n - i = omega arith in
        let left : (n - i) - 1 ≡ n - (i + 1) = omega arith in
        so_far
        ∙ ap (option_map (λ ys. xs ++ ys))
        (from_first here (n - i) some
        ∙ ap (option_and_then (λ x. option_map (λ ys. x ∷ ys) (series at step (here + step) ((n - i) - 1)))) is
        ∙ ap (λ k. option_and_then (λ x. option_map (λ ys. x ∷ ys) (series at step k ((n - i) - 1))) o) is_next
        ∙ ap (λ m. option_and_then (λ x. option_map (λ ys. x ∷ ys) (series at step next m)) o) left)

    pub series_end : i < n → at here ≡ None → whole ≡ None
    series_end lt is = next_is (here + step) lt refl None is

    pub series_more : (next : ℕ) → i < n → here + step ≡ next → (x : A) → at here ≡ Some x → whole ≡ option_map (λ ys. (xs ++ x ∷ []) ++ ys) (series at step next (n - (i + 1)))
    series_more next lt is_next x is = next_is next lt is_next (Some x) is ∙ prepended xs x (series at step next (n - (i + 1)))

    pub series_whole : n ≤ i → whole ≡ Some xs
    series_whole le =
        let none : n - i ≡ 0 = omega arith in
        so_far ∙ ap (λ m. option_map (λ ys. xs ++ ys) (series at step here m)) none ∙ ap Some (append-nil xs)

-- ---- whether something stands at each

both_some : {A : Type 0} (first : Option A) (rest : Option (List A)) → is_some (option_and_then (λ x. option_map (λ xs. x ∷ xs) rest) first) ≡ (is_some first && is_some rest)
both_some None rest = refl
both_some (Some x) None = refl
both_some (Some x) (Some xs) = refl

module _ {A : Type 0} (at : ℕ → Option A) (step : ℕ) where
  some_first : (a n : ℕ) → is_some (series at step a (suc n)) ≡ (is_some (at a) && is_some (series at step (a + step) n))
  some_first a n = both_some (at a) (series at step (a + step) n)

  -- something stands at each so far, and those from `here` on are left
  module _ (here i n : ℕ) (whole : Bool) (so_far : whole ≡ is_some (series at step here (n - i))) where
    pub some_next : (next : ℕ) → i < n → here + step ≡ next → whole ≡ (is_some (at here) && is_some (series at step next (n - (i + 1))))
    some_next next lt is_next =
        let one : n - i ≡ suc (n - (i + 1)) = omega arith in
        so_far ∙ ap (λ k. is_some (series at step here k)) one ∙ some_first here (n - (i + 1)) ∙ ap (λ k. is_some (at here) && is_some (series at step k (n - (i + 1)))) is_next

    pub some_whole : n ≤ i → whole ≡ true
    some_whole le =
        let none : n - i ≡ 0 = omega arith in
        so_far ∙ ap (λ m. is_some (series at step here m)) none

four_some : (a b c d : Option ℕ) → is_some (option_and_then (λ p. option_and_then (λ q. option_and_then (λ r. option_map (λ s. word_from p q r s) d) c) b) a) ≡ (is_some a && (is_some b && (is_some c && is_some d)))
four_some None b c d = refl
four_some (Some a) None c d = refl
four_some (Some a) (Some b) None d = refl
four_some (Some a) (Some b) (Some c) None = refl
four_some (Some a) (Some b) (Some c) (Some d) = refl

mapped_some : {A B : Type 0} (f : A → B) (o : Option A) → is_some (option_map f o) ≡ is_some o
mapped_some f None = refl
mapped_some f (Some x) = refl

regroup : (a b c d e : Bool) → ((a && (b && (c && d))) && e) ≡ (a && (b && (c && (d && e))))
regroup false b c d e = refl
regroup true false c d e = refl
regroup true true false d e = refl
regroup true true true false e = refl
regroup true true true true e = refl

line_some : (m : Memory) (a : ℕ) → is_some (line_at m a) ≡ (is_some (byte m a) && (is_some (byte m (a + 1)) && (is_some (byte m (a + 2)) && is_some (byte m (a + 3)))))
line_some m a = mapped_some _ (word_at m a) ∙ four_some (byte m a) (byte m (a + 1)) (byte m (a + 2)) (byte m (a + 3))

bytes_some : (m : Memory) (a k : ℕ) → is_some (series (byte m) 1 a (suc (suc (suc (suc k)))))
    ≡ (is_some (byte m a) && (is_some (byte m (a + 1)) && (is_some (byte m (a + 2)) && (is_some (byte m (a + 3)) && is_some (series (byte m) 1 (a + 4) k)))))
bytes_some m a k =
    let two : (a + 1) + 1 ≡ a + 2 = omega arith in
    let three : (a + 2) + 1 ≡ a + 3 = omega arith in
    let four : (a + 3) + 1 ≡ a + 4 = omega arith in
    some_first (byte m) 1 a (suc (suc (suc k)))
    ∙ ap (λ t. is_some (byte m a) && t)
    (some_first (byte m) 1 (a + 1) (suc (suc k))
    ∙ ap (λ t. is_some (byte m (a + 1)) && t)
    (ap (λ j. is_some (series (byte m) 1 j (suc (suc k)))) two ∙ some_first (byte m) 1 (a + 2) (suc k)
    ∙ ap (λ t. is_some (byte m (a + 2)) && t)
    (ap (λ j. is_some (series (byte m) 1 j (suc k))) three ∙ some_first (byte m) 1 (a + 3) k
    ∙ ap (λ j. is_some (byte m (a + 3)) && is_some (series (byte m) 1 j k)) four)))

-- there are the lines of some words just where there are their bytes
pub lines_some : (m : Memory) (a n : ℕ) → is_some (series (byte m) 1 a (4 * n)) ≡ is_some (series (line_at m) 4 a n)
lines_some m a zero = refl
lines_some m a (suc n) =
    let more : 4 * suc n ≡ suc (suc (suc (suc (4 * n)))) = omega arith in
    let there = is_some (series (line_at m) 4 (a + 4) n) in
    ap (λ k. is_some (series (byte m) 1 a k)) more ∙ bytes_some m a (4 * n)
    ∙ ap (λ t. is_some (byte m a) && (is_some (byte m (a + 1)) && (is_some (byte m (a + 2)) && (is_some (byte m (a + 3)) && t)))) (lines_some m (a + 4) n)
    ∙ sym (some_first (line_at m) 4 a n ∙ ap (λ t. t && there) (line_some m a) ∙ regroup (is_some (byte m a)) (is_some (byte m (a + 1))) (is_some (byte m (a + 2))) (is_some (byte m (a + 3))) there)

pub not_both : {A : Type 0} (o : Option A) → o ≡ None → IsSome o → ⊥
not_both None is some = cc
not_both (Some x) is some = cc

-- where something is found under a test, it is what is found without it
pub under_test : {A : Type 0} (test : Bool) (o : Option A) → IsSome (if test then o else None) → (if test then o else None) ≡ o
under_test true o some = refl
under_test false o some = cc
