-- What passes a test among numbers in a row.
use Rattle.std.proofs.Common.{◌≡◌, ℕ, zero, suc, ◌+◌, ◌-◌, ◌%◌, ◌≤◌, ◌<◌, inl, inr, Bool, true, false, cond, List, [], ◌∷◌, ◌++◌, refl, sym, ap, subst, ◌∙◌, arith, add-zero, zero-add, suc-add}
use Rattle.std.specs.Prelude.{filter}
use Rattle.std.specs.List.{range_with_len}
use Rattle.std.proofs.lemmas.List.{append-nil}
use Rattle.std.proofs.lemmas.List.Elements.{filter-append}
use Rattle.std.proofs.lemmas.Bool.{cases_lt}

-- those among so many numbers from one on that pass
unfoldable pub passing : (ℕ → Bool) → ℕ → ℕ → List ℕ
passing p first count = filter p (range_with_len first count)

shift : (a n : ℕ) → a + 1 + n ≡ a + suc n
shift a n = omega arith

range_split : (a m n : ℕ) → range_with_len a (m + n) ≡ range_with_len a m ++ range_with_len (a + m) n
range_split a zero n =
    ap (range_with_len a) (zero-add n) ∙ ap (λ (k : ℕ). range_with_len k n) (sym (add-zero a))
range_split a (suc m) n =
    ap (range_with_len a) (suc-add m n)
    ∙ ap (λ xs. a ∷ xs) (range_split (a + 1) m n)
    ∙ ap (λ (k : ℕ). a ∷ (range_with_len (a + 1) m ++ range_with_len k n)) (shift a m)

pub split : (p : ℕ → Bool) (a m n : ℕ) → passing p a (m + n) ≡ passing p a m ++ passing p (a + m) n
unfolding passing
split p a m n = ap (filter p) (range_split a m n) ∙ filter-append p (range_with_len a m) (range_with_len (a + m) n)

pub none_passes : (p : ℕ → Bool) (a n : ℕ) → ((b : ℕ) → a ≤ b → b < a + n → p b ≡ false) → passing p a n ≡ []
unfolding passing
none_passes p a zero fails = refl
none_passes p a (suc n) fails =
    let here : p a ≡ false = fails a (omega arith) (omega arith) in
    ap (λ b. cond b (a ∷ passing p (a + 1) n) (passing p (a + 1) n)) here ∙ none_passes p (a + 1) n (λ b lo hi. fails b (omega arith) (omega arith))

pub same_passes : (p q : ℕ → Bool) (a n : ℕ) → ((b : ℕ) → a ≤ b → b < a + n → p b ≡ q b) → passing p a n ≡ passing q a n
unfolding passing
same_passes p q a zero same = refl
same_passes p q a (suc n) same =
    let here : p a ≡ q a = same a (omega arith) (omega arith) in
    ap (λ b. cond b (a ∷ passing p (a + 1) n) (passing p (a + 1) n)) here
    ∙ ap (λ xs. cond (q a) (a ∷ xs) xs) (same_passes p q (a + 1) n (λ b lo hi. same b (omega arith) (omega arith)))

-- numbers from a place on that all fail add nothing
pub longer : (p : ℕ → Bool) (a m n : ℕ) → m ≤ n → ((b : ℕ) → a + m ≤ b → p b ≡ false) → passing p a n ≡ passing p a m
longer p a m n le fails =
    let more : n ≡ m + (n - m) = omega arith in
    ap (passing p a) more
    ∙ split p a m (n - m)
    ∙ ap (λ xs. passing p a m ++ xs) (none_passes p (a + m) (n - m) (λ b lo hi. fails b lo))
    ∙ append-nil (passing p a m)

pub either_length : (p : ℕ → Bool) (a m n : ℕ) → ((b : ℕ) → a + m ≤ b → p b ≡ false) → ((b : ℕ) → a + n ≤ b → p b ≡ false) → passing p a m ≡ passing p a n
either_length p a m n past_m past_n =
    elim (cases_lt m n) [
      | inl lt ↦ sym (longer p a m n (omega arith) past_m)
      | inr le ↦ longer p a n m le past_n
    ]

third : (p : ℕ → Bool) (c : ℕ) → p (c + 1) ≡ false → p (c + 2) ≡ false → p (c + 3) ≡ false → (b : ℕ) → c + 1 ≤ b → b < c + 1 + 3 → p b ≡ false
third p c one two three b lo hi =
    elim (cases_lt b (c + 2)) [
      | inl lt ↦ (let e : c + 1 ≡ b = omega arith in subst (λ (n : ℕ). p n ≡ false) e one)
      | inr ge ↦ elim (cases_lt b (c + 3)) [
        | inl lt ↦ (let e : c + 2 ≡ b = omega arith in subst (λ (n : ℕ). p n ≡ false) e two)
        | inr ge ↦ (let e : c + 3 ≡ b = omega arith in subst (λ (n : ℕ). p n ≡ false) e three)
      ]
    ]

-- four numbers from a multiple of 4 on, where only multiples of 4 pass
of_word : (p : ℕ → Bool) (c : ℕ) → p (c + 1) ≡ false → p (c + 2) ≡ false → p (c + 3) ≡ false → passing p c 4 ≡ cond (p c) (c ∷ []) []
unfolding passing
of_word p c one two three =
    let none : filter p (range_with_len (c + 1) 3) ≡ [] = none_passes p (c + 1) 3 (λ b lo hi. third p c one two three b lo hi) in
    ap (λ xs. cond (p c) (c ∷ xs) xs) none

appended : (b : Bool) (xs : List ℕ) (c : ℕ) → xs ++ cond b (c ∷ []) [] ≡ cond b (xs ++ c ∷ []) xs
appended true xs c = refl
appended false xs c = append-nil xs

pub next_word : (p : ℕ → Bool) (a c : ℕ) → a ≤ c → c % 4 ≡ 0 → ((b : ℕ) → (b % 4 ≡ 0 → ⊥) → p b ≡ false) → passing p a (c + 4 - a) ≡ cond (p c) (passing p a (c - a) ++ c ∷ []) (passing p a (c - a))
next_word p a c le aligned odd =
    let more : c + 4 - a ≡ (c - a) + 4 = omega arith in
    let here : a + (c - a) ≡ c = omega arith in
    ap (passing p a) more
    ∙ split p a (c - a) 4
    ∙ ap (λ (k : ℕ). passing p a (c - a) ++ passing p k 4) here
    ∙ ap (λ xs. passing p a (c - a) ++ xs) (of_word p c (odd (c + 1) (λ e. absurd (omega arith))) (odd (c + 2) (λ e. absurd (omega arith))) (odd (c + 3) (λ e. absurd (omega arith))))
    ∙ appended (p c) (passing p a (c - a)) c
