-- Addresses armed by draws alone, entry by entry, where a resumption takes one word.
use Rattle.std.proofs.Common.{◌≡◌, ℕ, zero, suc, ◌+◌, ◌-◌, ◌≤◌, ◌<◌, inl, inr, Bool, true, false, cond, List, [], ◌∷◌, ◌++◌, length, take, Option, Some, None, refl, sym, ap, subst, ◌∙◌, arith, length-append}
use Rattle.std.specs.Prelude.{slice_get, count_by, IsTrue, not}
use Rattle.std.specs.Option.{option_to_list}
use Rattle.std.proofs.lemmas.Bool.{cases_lt}
use Rattle.std.proofs.lemmas.List.{append-nil, take-append-le, take_all}
use Rattle.std.proofs.lemmas.List.Sums.{sum_by-append}
use Rattle.std.proofs.lemmas.Option.{slice_get_past, slice_get_within}
use Rattle.rv_drive.specs.Able.{IsLong, is_due}
use Rattle.rv_drive.specs.DriverLaws.{DrawsGoOn}
use Rattle.rv_drive.specs.Draws.{IsArmedByDraws, IsOwed, Sampling, arms_or_disarms, draw, draws, first_draws, is_resumed, next_index, owed}
use Rattle.rv_collide.specs.Forced.{Setting}
use Rattle.rv_collide.specs.declared.entry.Entry.{Entry}
use Rattle.rv_collide.specs.declared.entry.Entry.TheVariants.{Resumed, Armed}

-- ---- one more entry

front : {X : Type 0} → (xs ys : List X) (i : ℕ) → i < length xs → slice_get (xs ++ ys) i ≡ slice_get xs i
front [] ys i below = absurd (omega arith)
front (x ∷ xs) ys zero below = refl
front (x ∷ xs) ys (suc i) below = front xs ys i (omega arith)

last : {X : Type 0} → (xs : List X) (x : X) → slice_get (xs ++ x ∷ []) (length xs) ≡ Some x
last [] x = refl
last (y ∷ xs) x = last xs x

one_longer : (xs : List Entry) (e : Entry) → length (xs ++ e ∷ []) ≡ length xs + 1
one_longer xs e = length-append xs (e ∷ [])

whole_front : (xs : List Entry) (e : Entry) → take (length xs) (xs ++ e ∷ []) ≡ xs
whole_front xs e = take-append-le (length xs) xs (e ∷ []) (omega arith) ∙ take_all (length xs) xs (omega arith)

-- ---- pauses end when they are due

same_entry : (x e : Entry) → Some x ≡ Some e → x ≡ e
same_entry x e h = cc

pub long_more : (setting : Setting) (xs : List Entry) (e : Entry) → IsLong setting xs → ((hart : ℕ) → e ≡ Resumed hart → IsTrue (is_due setting xs hart)) → IsLong setting (xs ++ e ∷ [])
long_more setting xs e before gives place hart there =
    elim (cases_lt place (length xs)) [
      | inl lt ↦ subst (λ (ys : List Entry). IsTrue (is_due setting ys hart)) (sym (take-append-le place xs (e ∷ []) (omega arith))) (before place hart (sym (front xs (e ∷ []) place lt) ∙ there))
      | inr ge ↦ (let within = slice_get_within (xs ++ e ∷ []) place (Resumed hart) there in
          let more = one_longer xs e in
          let here : length xs ≡ place = omega arith in
          let same = same_entry e (Resumed hart) (sym (last xs e) ∙ ap (slice_get (xs ++ e ∷ [])) here ∙ there) in
          subst (λ (n : ℕ). IsTrue (is_due setting (take n (xs ++ e ∷ [])) hart)) here (subst (λ (ys : List Entry). IsTrue (is_due setting ys hart)) (sym (whole_front xs e)) (gives hart same)))
    ]

-- ---- what is owed after an entry

owed_more : DrawsGoOn → (setting : Setting) (sampling : Sampling) (xs : List Entry) (e : Entry) → owed setting sampling is_resumed xs ≡ None → owed setting sampling is_resumed (xs ++ e ∷ []) ≡ cond (is_resumed e) (draw setting sampling (xs ++ e ∷ []) (next_index is_resumed xs)) None
owed_more go setting sampling xs e paid = go.owed setting sampling is_resumed xs e (go.past setting sampling is_resumed xs paid)

-- ---- so far, and at the end

abbrev SoFar : Setting → Sampling → List Entry → Type 0
SoFar setting sampling xs = (place : ℕ) → place < length xs → IsOwed (owed setting sampling is_resumed (take place xs)) (slice_get xs place)

no_entry : (e : Entry) → None ≡ Some e → ⊥
no_entry e h = cc

paid_at_end : (o : Option Entry) → IsOwed o None → o ≡ None
paid_at_end None h = refl
paid_at_end (Some e) h = absurd (no_entry e h)

pub is_paid : (setting : Setting) (sampling : Sampling) (xs : List Entry) → IsArmedByDraws setting sampling is_resumed xs → owed setting sampling is_resumed xs ≡ None
is_paid setting sampling xs arms =
    ap (owed setting sampling is_resumed) (sym (take_all (length xs) xs (omega arith)))
    ∙ paid_at_end (owed setting sampling is_resumed (take (length xs) xs)) (subst (λ (o : Option Entry). IsOwed (owed setting sampling is_resumed (take (length xs) xs)) o) (slice_get_past xs (length xs) (omega arith)) (arms (length xs)))

nothing_owed : (o : Option Entry) → o ≡ None → IsOwed o None
nothing_owed None h = refl
nothing_owed (Some e) h = absurd (no_entry e (sym h))

whole : (setting : Setting) (sampling : Sampling) (xs : List Entry) → SoFar setting sampling xs → owed setting sampling is_resumed xs ≡ None → IsArmedByDraws setting sampling is_resumed xs
whole setting sampling xs so_far paid place =
    elim (cases_lt place (length xs)) [
      | inl lt ↦ so_far place lt
      | inr ge ↦ subst (λ (o : Option Entry). IsOwed (owed setting sampling is_resumed (take place xs)) o) (sym (slice_get_past xs place ge)) (nothing_owed (owed setting sampling is_resumed (take place xs)) (ap (owed setting sampling is_resumed) (take_all place xs ge) ∙ paid))
    ]

so_far_more : (setting : Setting) (sampling : Sampling) (xs : List Entry) (e : Entry) → SoFar setting sampling xs → IsOwed (owed setting sampling is_resumed xs) (Some e) → SoFar setting sampling (xs ++ e ∷ [])
so_far_more setting sampling xs e before gives place below =
    elim (cases_lt place (length xs)) [
      | inl lt ↦ subst (λ (o : Option Entry). IsOwed (owed setting sampling is_resumed (take place (xs ++ e ∷ []))) o) (sym (front xs (e ∷ []) place lt))
          (subst (λ (ys : List Entry). IsOwed (owed setting sampling is_resumed ys) (slice_get xs place)) (sym (take-append-le place xs (e ∷ []) (omega arith))) (before place lt))
      | inr ge ↦ (let more = one_longer xs e in let here : length xs ≡ place = omega arith in
          subst (λ (n : ℕ). IsOwed (owed setting sampling is_resumed (take n (xs ++ e ∷ []))) (slice_get (xs ++ e ∷ []) n)) here
          (subst (λ (o : Option Entry). IsOwed (owed setting sampling is_resumed (take (length xs) (xs ++ e ∷ []))) o) (sym (last xs e))
          (subst (λ (ys : List Entry). IsOwed (owed setting sampling is_resumed ys) (Some e)) (sym (whole_front xs e)) gives)))
    ]

harmless : (o : Option Entry) (e : Entry) → o ≡ None → IsTrue (not (arms_or_disarms e)) → IsOwed o (Some e)
harmless None e h arms_none = arms_none
harmless (Some x) e h arms_none = absurd (no_entry x (sym h))

is_owed : (o : Option Entry) (e : Entry) → o ≡ Some e → IsOwed o (Some e)
is_owed None e h = absurd (no_entry e h)
is_owed (Some x) e h = sym h

-- ---- a turn

pub after_turn : DrawsGoOn → (setting : Setting) (sampling : Sampling) (xs : List Entry) (e : Entry) → IsArmedByDraws setting sampling is_resumed xs → is_resumed e ≡ false → IsTrue (not (arms_or_disarms e)) → IsArmedByDraws setting sampling is_resumed (xs ++ e ∷ [])
after_turn go setting sampling xs e arms stays arms_none =
    let paid = is_paid setting sampling xs arms in
    whole setting sampling (xs ++ e ∷ [])
    (so_far_more setting sampling xs e (λ place below. arms place) (harmless (owed setting sampling is_resumed xs) e paid arms_none))
    (owed_more go setting sampling xs e paid ∙ ap (λ b. cond b (draw setting sampling (xs ++ e ∷ []) (next_index is_resumed xs)) None) stays)

-- ---- a resumption with its draw

pub drawn_is_armed : DrawsGoOn → (setting : Setting) (sampling : Sampling) (xs : List Entry) (index : ℕ) (e : Entry) → draw setting sampling xs index ≡ Some e → is_resumed e ≡ false
drawn_is_armed go setting sampling xs index e adds = (let arms = go.arm setting sampling xs index e adds in ap is_resumed arms.1)

plus_none : (n : ℕ) → n + 0 ≡ n
plus_none n = omega arith

-- what holds once a draw has been made
pub record HasDrawn (setting : Setting) (sampling : Sampling) (entries : List Entry) (taken : ℕ) : Type 0 where
  pub long : IsLong setting entries
  pub arms : IsArmedByDraws setting sampling is_resumed entries
  pub taken_are : taken ≡ next_index is_resumed entries

not_resumed : (e : Entry) (hart : ℕ) → is_resumed e ≡ false → e ≡ Resumed hart → ⊥
not_resumed e hart stays is = (let differ : false ≡ true = sym stays ∙ ap is_resumed is in cc)

after_draw : DrawsGoOn → (setting : Setting) (sampling : Sampling) (xs : List Entry) (taken index : ℕ) (d : Option Entry) → IsLong setting xs → SoFar setting sampling xs → owed setting sampling is_resumed xs ≡ d → draw setting sampling xs index ≡ d → taken ≡ next_index is_resumed xs → length (draws setting sampling first_draws) ≤ length xs → HasDrawn setting sampling (xs ++ option_to_list d) taken
after_draw go setting sampling xs taken index None long so_far owes adds are past =
    subst (λ (ys : List Entry). HasDrawn setting sampling ys taken) (sym (append-nil xs)) (record { long = long; arms = whole setting sampling xs so_far owes; taken_are = are })
after_draw go setting sampling xs taken index (Some e) long so_far owes adds are past =
    let armed = drawn_is_armed go setting sampling xs index e adds in
    record {
      long = long_more setting xs e long (λ hart is. absurd (not_resumed e hart armed is));
      arms = whole setting sampling (xs ++ e ∷ [])
          (so_far_more setting sampling xs e so_far (is_owed (owed setting sampling is_resumed xs) e owes))
          (go.owed setting sampling is_resumed xs e past ∙ ap (λ b. cond b (draw setting sampling (xs ++ e ∷ []) (next_index is_resumed xs)) None) armed);
      taken_are = are ∙ sym (go.index is_resumed xs e ∙ ap (λ b. next_index is_resumed xs + cond b 1 0) armed ∙ plus_none (next_index is_resumed xs));
    }

same_hart : (a b : ℕ) → Resumed a ≡ Resumed b → a ≡ b
same_hart a b h = cc

pub after_resumption : DrawsGoOn → (setting : Setting) (sampling : Sampling) (xs : List Entry) (hart : ℕ) → IsLong setting xs → IsArmedByDraws setting sampling is_resumed xs → IsTrue (is_due setting xs hart) → HasDrawn setting sampling ((xs ++ Resumed hart ∷ []) ++ option_to_list (draw setting sampling (xs ++ Resumed hart ∷ []) (next_index is_resumed xs))) (next_index is_resumed xs + 1)
after_resumption go setting sampling xs hart long arms due =
    let all = draws setting sampling first_draws in
    let paid = is_paid setting sampling xs arms in
    let past = go.past setting sampling is_resumed xs paid in
    let more = one_longer xs (Resumed hart) in
    after_draw go setting sampling (xs ++ Resumed hart ∷ []) (next_index is_resumed xs + 1) (next_index is_resumed xs) (draw setting sampling (xs ++ Resumed hart ∷ []) (next_index is_resumed xs))
    (long_more setting xs (Resumed hart) long (λ other is. subst (λ (n : ℕ). IsTrue (is_due setting xs n)) (same_hart hart other is) due))
    (so_far_more setting sampling xs (Resumed hart) (λ place below. arms place) (harmless (owed setting sampling is_resumed xs) (Resumed hart) paid refl))
    (owed_more go setting sampling xs (Resumed hart) paid)
    refl
    (sym (go.index is_resumed xs (Resumed hart)))
    (omega (arith, more, past))

-- ---- the first draws

draws_owed : DrawsGoOn → (setting : Setting) (sampling : Sampling) → SoFar setting sampling (draws setting sampling first_draws)
draws_owed go setting sampling place below =
    let first = go.first setting sampling is_resumed place below in
    subst (λ (o : Option Entry). IsOwed (owed setting sampling is_resumed (take place (draws setting sampling first_draws))) o) (sym first.1)
    (is_owed (owed setting sampling is_resumed (take place (draws setting sampling first_draws))) (Armed first.0) first.2)

none_long : DrawsGoOn → (setting : Setting) (sampling : Sampling) → IsLong setting (draws setting sampling first_draws)
none_long go setting sampling place hart there =
    let below = slice_get_within (draws setting sampling first_draws) place (Resumed hart) there in
    let first = go.first setting sampling is_resumed place below in
    let same : Some (Armed first.0) ≡ Some (Resumed hart) = sym first.1 ∙ there in
    cc

pub after_draws : DrawsGoOn → (setting : Setting) (sampling : Sampling) → HasDrawn setting sampling (draws setting sampling first_draws) 16
after_draws go setting sampling =
    let paid = go.paid setting sampling is_resumed (λ address. refl) in
    record {
      long = none_long go setting sampling;
      arms = whole setting sampling (draws setting sampling first_draws) (draws_owed go setting sampling) paid.0;
      taken_are = sym paid.1;
    }

-- ---- so few words are taken

at_most : (b : Bool) (n m : ℕ) → n ≤ m → 0 + cond b 1 0 + n ≤ suc m
at_most true n m h = omega arith
at_most false n m h = omega arith

pub few_taken : (xs : List Entry) → count_by is_resumed xs ≤ length xs
few_taken [] = omega arith
few_taken (x ∷ xs) = subst (λ (n : ℕ). n ≤ suc (length xs)) (sym (sum_by-append (λ y. cond (is_resumed y) 1 0) (x ∷ []) xs)) (at_most (is_resumed x) (count_by is_resumed xs) (length xs) (few_taken xs))
