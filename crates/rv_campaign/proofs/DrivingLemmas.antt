-- How a seeded run goes on, entry by entry.
use Rattle.std.proofs.Common.{◌≡◌, ℕ, zero, suc, ◌+◌, ◌≤◌, ◌<◌, inl, inr, true, false, cond, List, [], ◌∷◌, ◌++◌, length, take, Option, Some, None, Ok, refl, sym, ap, subst, ◌∙◌, arith, length-append, ◌%◌}
use Rattle.std.specs.Prelude.{slice_get, option_and_then, option_map}
use Rattle.std.specs.Result.{result_ok}
use Rattle.std.specs.Option.{option_or, option_to_list}
use Rattle.std.proofs.lemmas.Bool.{cases_lt}
use Rattle.std.proofs.lemmas.List.{append_assoc, append-nil, take-append-le, take_all}
use Rattle.std.proofs.lemmas.Option.{slice_get_past}
use Rattle.rv_campaign.specs.internal.Driving.{IsDriving}
use Rattle.rv_drive.specs.Able.{able, due}
use Rattle.rv_drive.specs.Drawn.{IsDrawn, driven, picked_hart, turn_drawn, turns_and_resumptions}
use Rattle.rv_drive.specs.DriverLaws.{AddsItsKind, DrawsGoOn}
use Rattle.rv_drive.specs.Turns.{ArePickedTurns}
use Rattle.rv_drive.specs.Draws.{Sampling, draw, draws, first_draws, is_resumed, next_index, owed}
use Rattle.rv_collide.specs.Forced.{Setting, Turn, forced}
use Rattle.rv_collide.specs.Legal.{call_of}
use Rattle.rv_collide.specs.declared.entry.Entry.{Entry}
use Rattle.rv_collide.specs.declared.entry.Entry.TheVariants.{Stepped, Paused, Resumed, Armed, Disarmed}

-- ---- one more entry

front : {X : Type 0} → (xs ys : List X) (i : ℕ) → i < length xs → slice_get (xs ++ ys) i ≡ slice_get xs i
front [] ys i below = absurd (omega arith)
front (x ∷ xs) ys zero below = refl
front (x ∷ xs) ys (suc i) below = front xs ys i (omega arith)

last : {X : Type 0} → (xs : List X) (x : X) → slice_get (xs ++ x ∷ []) (length xs) ≡ Some x
last [] x = refl
last (y ∷ xs) x = last xs x

one_longer : (xs : List Entry) (e : Entry) → length (xs ++ e ∷ []) ≡ length xs + 1
one_longer xs e = length-append xs (e ∷ [])

whole_front : (xs : List Entry) (e : Entry) → take (length xs) (xs ++ e ∷ []) ≡ xs
whole_front xs e = take-append-le (length xs) xs (e ∷ []) (omega arith) ∙ take_all (length xs) xs (omega arith)

-- the list so far goes on by what is driven
so_far_more : (setting : Setting) (sampling : Sampling) (xs : List Entry) (e : Entry) → ((place : ℕ) → place < length xs → slice_get xs place ≡ driven setting sampling (take place xs)) → driven setting sampling xs ≡ Some e → (place : ℕ) → place < length (xs ++ e ∷ []) → slice_get (xs ++ e ∷ []) place ≡ driven setting sampling (take place (xs ++ e ∷ []))
so_far_more setting sampling xs e before gives place below =
    elim (cases_lt place (length xs)) [
      | inl lt ↦ front xs (e ∷ []) place lt ∙ before place lt ∙ ap (driven setting sampling) (sym (take-append-le place xs (e ∷ []) (omega arith)))
      | inr ge ↦ (let more = one_longer xs e in let here : place ≡ length xs = omega arith in
          ap (slice_get (xs ++ e ∷ [])) here ∙ last xs e ∙ sym gives
          ∙ ap (driven setting sampling) (sym (whole_front xs e)) ∙ ap (λ (n : ℕ). driven setting sampling (take n (xs ++ e ∷ []))) (sym here))
    ]

-- ---- what is owed after an entry

owed_more : DrawsGoOn → (setting : Setting) (sampling : Sampling) (xs : List Entry) (e : Entry) → owed setting sampling turns_and_resumptions xs ≡ None → owed setting sampling turns_and_resumptions (xs ++ e ∷ []) ≡ cond (is_resumed e) (draw setting sampling (xs ++ e ∷ []) (next_index turns_and_resumptions xs)) None
owed_more go setting sampling xs e paid = go.owed setting sampling turns_and_resumptions xs e (go.past setting sampling turns_and_resumptions xs paid)

-- ---- a turn

record IsTurn (e : Entry) : Type 0 where
  takes : turns_and_resumptions e ≡ true
  stays : is_resumed e ≡ false

is_turn : (e : Entry) (hart : ℕ) → call_of e ≡ Turn hart → IsTurn e
is_turn (Stepped h) hart is = record { takes = refl; stays = refl }
is_turn (Paused h slot) hart is = record { takes = refl; stays = refl }
is_turn (Resumed h) hart is = cc
is_turn (Armed a) hart is = cc
is_turn (Disarmed a) hart is = cc

or_second : {X : Type 0} → (a b : Option X) → a ≡ None → option_or a b ≡ b
or_second None b h = refl
or_second (Some x) b h = cc

turn_driven : (setting : Setting) (sampling : Sampling) (xs : List Entry) (hart : ℕ) (e : Entry) → owed setting sampling turns_and_resumptions xs ≡ None → due setting xs ≡ None → picked_hart setting xs (sampling.word_at (next_index turns_and_resumptions xs)) ≡ Some hart → forced setting xs (Turn hart) ≡ Ok e → driven setting sampling xs ≡ Some e
unfolding driven turn_drawn
turn_driven setting sampling xs hart e paid undue picked ok =
    or_second (owed setting sampling turns_and_resumptions xs) _ paid
    ∙ ap (λ o. option_or (option_map Resumed o) (option_and_then (λ h. result_ok (forced setting xs (Turn h))) (picked_hart setting xs (sampling.word_at (next_index turns_and_resumptions xs))))) undue
    ∙ ap (option_and_then (λ h. result_ok (forced setting xs (Turn h)))) picked
    ∙ ap result_ok ok

after_turn : DrawsGoOn → AddsItsKind → (setting : Setting) (sampling : Sampling) (xs : List Entry) (taken hart : ℕ) (e : Entry) → IsDriving setting sampling xs taken → due setting xs ≡ None → picked_hart setting xs (sampling.word_at taken) ≡ Some hart → forced setting xs (Turn hart) ≡ Ok e → IsDriving setting sampling (xs ++ e ∷ []) (taken + 1)
after_turn go kind setting sampling xs taken hart e d undue picked ok =
    let t = is_turn e hart (kind setting xs (Turn hart) e ok) in
    let at = subst (λ (n : ℕ). picked_hart setting xs (sampling.word_at n) ≡ Some hart) d.taken_are picked in
    let one : next_index turns_and_resumptions (xs ++ e ∷ []) ≡ next_index turns_and_resumptions xs + 1 = go.index turns_and_resumptions xs e ∙ ap (λ b. next_index turns_and_resumptions xs + cond b 1 0) t.takes in
    record {
      so_far = so_far_more setting sampling xs e d.so_far (turn_driven setting sampling xs hart e d.paid undue at ok);
      paid = owed_more go setting sampling xs e d.paid ∙ ap (λ b. cond b (draw setting sampling (xs ++ e ∷ []) (next_index turns_and_resumptions xs)) None) t.stays;
      taken_are = ap (λ n. n + 1) d.taken_are ∙ sym one;
    }

plus_none : (n : ℕ) → n + 0 ≡ n
plus_none n = omega arith

more_then : (taken more : ℕ) → taken + 1 + more ≡ taken + suc more
more_then taken more = omega arith

pub after_turns : DrawsGoOn → AddsItsKind → (setting : Setting) (sampling : Sampling) (xs turns : List Entry) (taken : ℕ) → IsDriving setting sampling xs taken → ArePickedTurns setting sampling.word_at taken xs turns → IsDriving setting sampling (xs ++ turns) (taken + length turns)
after_turns go kind setting sampling xs [] taken d are =
    subst (λ (n : ℕ). IsDriving setting sampling (xs ++ []) n) (sym (plus_none taken))
    (subst (λ (ys : List Entry). IsDriving setting sampling ys taken) (sym (append-nil xs)) d)
after_turns go kind setting sampling xs (turn ∷ turns) taken d are =
    let first = are.0 in
    let one = after_turn go kind setting sampling xs taken first.hart turn d first.undue first.picked first.turns in
    let all = after_turns go kind setting sampling (xs ++ turn ∷ []) turns (taken + 1) one are.1 in
    subst (λ (n : ℕ). IsDriving setting sampling (xs ++ turn ∷ turns) n) (more_then taken (length turns))
    (subst (λ (ys : List Entry). IsDriving setting sampling ys (taken + 1 + length turns)) (append_assoc xs (turn ∷ []) turns) all)

-- ---- a resumption with its draw

due_driven : (setting : Setting) (sampling : Sampling) (xs : List Entry) (hart : ℕ) → owed setting sampling turns_and_resumptions xs ≡ None → due setting xs ≡ Some hart → driven setting sampling xs ≡ Some (Resumed hart)
unfolding driven
due_driven setting sampling xs hart paid is =
    or_second (owed setting sampling turns_and_resumptions xs) _ paid
    ∙ ap (λ o. option_or (option_map Resumed o) (turn_drawn setting sampling xs)) is

drawn_first : (setting : Setting) (sampling : Sampling) (xs : List Entry) (e : Entry) → owed setting sampling turns_and_resumptions xs ≡ Some e → driven setting sampling xs ≡ Some e
unfolding driven
drawn_first setting sampling xs e owes = ap (λ o. option_or o (option_or (option_map Resumed (due setting xs)) (turn_drawn setting sampling xs))) owes

after_draw : DrawsGoOn → (setting : Setting) (sampling : Sampling) (xs : List Entry) (taken : ℕ) (d : Option Entry) → ((place : ℕ) → place < length xs → slice_get xs place ≡ driven setting sampling (take place xs)) → owed setting sampling turns_and_resumptions xs ≡ d → (index : ℕ) → draw setting sampling xs index ≡ d → taken ≡ next_index turns_and_resumptions xs → length (draws setting sampling first_draws) ≤ length xs → IsDriving setting sampling (xs ++ option_to_list d) taken
after_draw go setting sampling xs taken None so_far owes index adds are past =
    subst (λ (ys : List Entry). IsDriving setting sampling ys taken) (sym (append-nil xs)) (record { so_far = so_far; paid = owes; taken_are = are })
after_draw go setting sampling xs taken (Some e) so_far owes index adds are past =
    let arms = go.arm setting sampling xs index e adds in
    record {
      so_far = so_far_more setting sampling xs e so_far (drawn_first setting sampling xs e owes);
      paid = go.owed setting sampling turns_and_resumptions xs e past ∙ ap (λ b. cond b (draw setting sampling (xs ++ e ∷ []) (next_index turns_and_resumptions xs)) None) (ap is_resumed arms.1);
      taken_are = are ∙ sym (go.index turns_and_resumptions xs e ∙ ap (λ b. next_index turns_and_resumptions xs + cond b 1 0) (ap turns_and_resumptions arms.1) ∙ plus_none (next_index turns_and_resumptions xs));
    }

pub after_resumption : DrawsGoOn → (setting : Setting) (sampling : Sampling) (xs : List Entry) (taken hart : ℕ) → IsDriving setting sampling xs taken → due setting xs ≡ Some hart → IsDriving setting sampling ((xs ++ Resumed hart ∷ []) ++ option_to_list (draw setting sampling (xs ++ Resumed hart ∷ []) taken)) (taken + 1)
after_resumption go setting sampling xs taken hart d is =
    let ys = xs ++ Resumed hart ∷ [] in
    let all = draws setting sampling first_draws in
    let past = go.past setting sampling turns_and_resumptions xs d.paid in
    let more = one_longer xs (Resumed hart) in
    after_draw go setting sampling (xs ++ Resumed hart ∷ []) (taken + 1) (draw setting sampling (xs ++ Resumed hart ∷ []) taken)
    (so_far_more setting sampling xs (Resumed hart) d.so_far (due_driven setting sampling xs hart d.paid is))
    (owed_more go setting sampling xs (Resumed hart) d.paid ∙ ap (draw setting sampling (xs ++ Resumed hart ∷ [])) (sym d.taken_are))
    taken refl
    (ap (λ n. n + 1) d.taken_are ∙ sym (go.index turns_and_resumptions xs (Resumed hart)))
    (omega (arith, more, past))

-- ---- the end

pub whole_run : (setting : Setting) (sampling : Sampling) (xs : List Entry) (taken : ℕ) → IsDriving setting sampling xs taken → driven setting sampling xs ≡ None → IsDrawn setting sampling xs
whole_run setting sampling xs taken d over place =
    elim (cases_lt place (length xs)) [
      | inl lt ↦ d.so_far place lt
      | inr ge ↦ slice_get_past xs place ge ∙ sym (ap (driven setting sampling) (take_all place xs ge) ∙ over)
    ]

pub run_over : (setting : Setting) (sampling : Sampling) (xs : List Entry) (taken : ℕ) → IsDriving setting sampling xs taken → due setting xs ≡ None → length (able setting xs) ≡ 0 → driven setting sampling xs ≡ None
unfolding driven turn_drawn picked_hart
run_over setting sampling xs taken d undue none =
    or_second (owed setting sampling turns_and_resumptions xs) _ d.paid
    ∙ ap (λ o. option_or (option_map Resumed o) (turn_drawn setting sampling xs)) undue
    ∙ ap (option_and_then (λ hart. result_ok (forced setting xs (Turn hart)))) (slice_get_past (able setting xs) (sampling.word_at (next_index turns_and_resumptions xs) % length (able setting xs)) (omega (arith, none)))

-- ---- the first draws

draws_driven : DrawsGoOn → (setting : Setting) (sampling : Sampling) (place : ℕ) → place < length (draws setting sampling first_draws) → slice_get (draws setting sampling first_draws) place ≡ driven setting sampling (take place (draws setting sampling first_draws))
draws_driven go setting sampling place below =
    let first = go.first setting sampling turns_and_resumptions place below in
    first.1 ∙ sym (drawn_first setting sampling (take place (draws setting sampling first_draws)) (Armed first.0) first.2)

pub after_draws : DrawsGoOn → (setting : Setting) (sampling : Sampling) (xs : List Entry) (taken : ℕ) → xs ≡ draws setting sampling first_draws → taken ≡ first_draws → IsDriving setting sampling xs taken
after_draws go setting sampling xs taken are count =
    let paid = go.paid setting sampling turns_and_resumptions (λ address. refl) in
    subst (λ (ys : List Entry). IsDriving setting sampling ys taken) (sym are) (record {
      so_far = draws_driven go setting sampling;
      paid = paid.0;
      taken_are = count ∙ sym paid.1;
    })
