-- What the draws owe after one more entry, whichever entries take words.
use Rattle.std.proofs.Common.{◌≡◌, ℕ, zero, suc, ◌+◌, ◌-◌, ◌≤◌, ◌<◌, inl, inr, cond, List, [], ◌∷◌, ◌++◌, length, take, Option, Some, None, ap, ◌∙◌, refl, arith, length-append}
use Rattle.std.specs.Prelude.{slice_get, option_and_then}
use Rattle.std.specs.Option.{option_or}
use Rattle.std.proofs.lemmas.Bool.{cases_lt}
use Rattle.std.proofs.lemmas.List.{take-append-le, take_all}
use Rattle.std.proofs.lemmas.List.Sums.{sum_by-append}
use Rattle.std.proofs.lemmas.Option.{slice_get_past}
use Rattle.rv_collide.specs.declared.entry.Entry.{Entry}
use Rattle.rv_drive.specs.DriverLaws.{IndexGoesOn, OwedAfterOneMore, PaidIsPastFirst}
use Rattle.rv_drive.specs.Draws.{draw, draw_after, draws, first_draws, is_resumed, next_index, owed}
use Rattle.rv_drive.proofs.Fronts.{get_last}

one_longer : (xs : List Entry) (e : Entry) → length (xs ++ e ∷ []) ≡ length xs + 1
one_longer xs e = length-append xs (e ∷ [])

whole_front : (xs : List Entry) (e : Entry) → take (length xs) (xs ++ e ∷ []) ≡ xs
whole_front xs e = take-append-le (length xs) xs (e ∷ []) (omega arith) ∙ take_all (length xs) xs (omega arith)

less_one : (xs : List Entry) (e : Entry) → length (xs ++ e ∷ []) - 1 ≡ length xs
less_one xs e = let more = one_longer xs e in omega arith

is_there : (xs : List Entry) (n : ℕ) → n < length xs → slice_get xs n ≡ None → ⊥
is_there [] n below none = absurd (omega arith)
is_there (x ∷ xs) zero below none = cc
is_there (x ∷ xs) (suc n) below none = is_there xs n (omega arith) none

first_none : {X : Type 0} → (a b : Option X) → option_or a b ≡ None → a ≡ None
first_none None b h = refl
first_none (Some x) b h = cc

past_none : (all : List Entry) (n : ℕ) → slice_get all n ≡ None → length all ≤ n
past_none all n none =
    elim (cases_lt n (length all)) [
      | inl lt ↦ absurd (is_there all n lt none)
      | inr ge ↦ ge
    ]

pub paid_is_past : PaidIsPastFirst
unfolding owed
paid_is_past setting sampling takes entries paid =
    past_none (draws setting sampling first_draws) (length entries) (first_none (slice_get (draws setting sampling first_draws) (length entries)) (draw_after setting sampling takes entries) paid)

pub owed_more : OwedAfterOneMore
unfolding owed draw_after
owed_more setting sampling takes xs e stand =
    let all = draws setting sampling first_draws in
    let more = one_longer xs e in
    let past : slice_get all (length (xs ++ e ∷ [])) ≡ None = slice_get_past all (length (xs ++ e ∷ [])) (omega arith) in
    ap (λ o. option_or o (option_and_then (λ last. cond (is_resumed last) (draw setting sampling (xs ++ e ∷ []) (next_index takes (take (length (xs ++ e ∷ []) - 1) (xs ++ e ∷ [])))) None) (slice_get (xs ++ e ∷ []) (length (xs ++ e ∷ []) - 1)))) past
    ∙ ap (λ (n : ℕ). option_and_then (λ last. cond (is_resumed last) (draw setting sampling (xs ++ e ∷ []) (next_index takes (take n (xs ++ e ∷ [])))) None) (slice_get (xs ++ e ∷ []) n)) (less_one xs e)
    ∙ ap (option_and_then (λ last. cond (is_resumed last) (draw setting sampling (xs ++ e ∷ []) (next_index takes (take (length xs) (xs ++ e ∷ [])))) None)) (get_last xs e)
    ∙ ap (λ ys. cond (is_resumed e) (draw setting sampling (xs ++ e ∷ []) (next_index takes ys)) None) (whole_front xs e)

pub index_more : IndexGoesOn
index_more takes xs e =
    let more = sum_by-append (λ x. cond (takes x) 1 0) xs (e ∷ []) in
    omega (arith, more)
