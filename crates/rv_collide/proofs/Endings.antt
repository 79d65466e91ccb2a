-- The endings after one more entry.
use Rattle.std.proofs.Common.{◌≡◌, ℕ, ◌-◌, ◌≤◌, ◌<◌, List, [], ◌∷◌, ◌++◌, length, take, Option, Some, None, map, refl, sym, ap, subst, ◌∙◌, arith, length-append}
use Rattle.std.specs.Prelude.{◌==◌, filter_map, slice_get, option_and_then, option_map}
use Rattle.std.specs.List.{cons_option}
use Rattle.std.proofs.lemmas.List.{append-nil, take-append-le, length-take}
use Rattle.std.proofs.lemmas.List.Elements.{filter_map-append}
use Rattle.std.proofs.Math.Seq.{take-append_seam}
use Rattle.rv_collide.specs.Entries.{places}
use Rattle.rv_collide.specs.First.{paused_access}
use Rattle.rv_collide.specs.Next.{next}
use Rattle.rv_collide.specs.Pause.{Pause, Opening, ended, opening_of, openings, pause_ended, resumed_hart}
use Rattle.rv_collide.specs.Verdict.{ending, ending_at, endings}
use Rattle.rv_collide.specs.declared.ending.Ending.{Ending}
use Rattle.rv_collide.specs.declared.entry.Entry.{Entry}
use Rattle.rv_collide.specs.declared.entry.Entry.TheVariants.{Resumed}
use Rattle.rv_hart.specs.State.{State}
use Rattle.rv_hart.specs.declared.access.Access.{Access}
use Rattle.rv_collide.proofs.ArmedLemmas.{places_push}
use Rattle.rv_collide.proofs.LawLemmas.{some_same}
use Rattle.rv_collide.proofs.Lists.{filter_map_by_map}
use Rattle.rv_collide.proofs.Places.{ending_front}
use Rattle.rv_collide.proofs.Prefix.{get_front, get_last, next_front}
use Rattle.rv_collide.proofs.Slots.{find_below, openings_below}

pub opening_below : (xs : List Entry) (h : ℕ) (o : Opening) → opening_of xs h ≡ Some o → o.place < length xs
unfolding opening_of
opening_below xs h o found = find_below (length xs) (λ (p : Opening). p.hart == h) (openings xs) o (openings_below xs) found

taken_below : (n i : ℕ) (xs : List Entry) → i < length (take n xs) → i < n
taken_below n i xs lt = let l = length-take n xs in omega arith

pub record Bounds (place : ℕ) (pause : Pause) : Type 0 where
  pub begun : pause.paused_at < place
  pub over : pause.resumed_at ≡ place

bounds_at : (xs : List Entry) (place hart : ℕ) (o : Option Opening) → opening_of (take place xs) hart ≡ o → (pause : Pause) → option_map (ended place) o ≡ Some pause → Bounds place pause
bounds_at xs place hart None found pause h = cc
bounds_at xs place hart (Some o) found pause h =
    subst (λ (p : Pause). Bounds place p) (some_same (ended place o) pause h)
    (record { begun = taken_below place o.place xs (opening_below (take place xs) hart o found); over = refl })

bounds_of : (xs : List Entry) (place : ℕ) (hart : Option ℕ) (pause : Pause) → option_and_then (λ h. option_map (ended place) (opening_of (take place xs) h)) hart ≡ Some pause → Bounds place pause
bounds_of xs place None pause h = cc
bounds_of xs place (Some hart) pause h = bounds_at xs place hart (opening_of (take place xs) hart) refl pause h

pause_front : (xs : List Entry) (e : Entry) (i : ℕ) → i < length xs → pause_ended (xs ++ e ∷ []) i ≡ pause_ended xs i
unfolding pause_ended
pause_front xs e i lt =
    ap (λ (o : Option Entry). option_and_then (λ hart. option_map (ended i) (opening_of (take i (xs ++ e ∷ [])) hart)) (option_and_then resumed_hart o)) (get_front xs (e ∷ []) i lt)
    ∙ ap (λ (ys : List Entry). option_and_then (λ hart. option_map (ended i) (opening_of ys hart)) (option_and_then resumed_hart (slice_get xs i))) (take-append-le i xs (e ∷ []) (omega arith))

pub pause_bounds : (xs : List Entry) (i : ℕ) (pause : Pause) → pause_ended xs i ≡ Some pause → Bounds i pause
unfolding pause_ended
pause_bounds xs i pause h = bounds_of xs i (option_and_then resumed_hart (slice_get xs i)) pause h

access_front : (start : State) (xs : List Entry) (e : Entry) (pause : Pause) → pause.paused_at < length xs → paused_access start (xs ++ e ∷ []) pause ≡ paused_access start xs pause
unfolding paused_access
access_front start xs e pause lt = next_front start xs (e ∷ []) pause.paused_at pause.hart (omega arith)

told_front : (start : State) (xs : List Entry) (e : Entry) (pause : Pause) → pause.paused_at < length xs → pause.resumed_at ≤ length xs → option_map (ending start (xs ++ e ∷ []) pause) (paused_access start (xs ++ e ∷ []) pause) ≡ option_map (ending start xs pause) (paused_access start xs pause)
told_front start xs e pause lt le =
    ap (option_map (ending start (xs ++ e ∷ []) pause)) (access_front start xs e pause lt)
    ∙ elim (paused_access start xs pause) as (λ (a : Option Access). option_map (ending start (xs ++ e ∷ []) pause) a ≡ option_map (ending start xs pause) a) [
      | None ↦ refl
      | Some access ↦ ap Some (ending_front start xs (e ∷ []) pause access lt le)
    ]

ending_at_front : (start : State) (xs : List Entry) (e : Entry) (i : ℕ) → i < length xs → ending_at start (xs ++ e ∷ []) i ≡ ending_at start xs i
unfolding ending_at
ending_at_front start xs e i lt =
    ap (option_and_then (λ pause. option_map (ending start (xs ++ e ∷ []) pause) (paused_access start (xs ++ e ∷ []) pause))) (pause_front xs e i lt)
    ∙ elim (pause_ended xs i) as (λ (p : Option Pause). pause_ended xs i ≡ p → option_and_then (λ pause. option_map (ending start (xs ++ e ∷ []) pause) (paused_access start (xs ++ e ∷ []) pause)) p ≡ option_and_then (λ pause. option_map (ending start xs pause) (paused_access start xs pause)) p) [
      | None ↦ λ is. refl
      | Some pause ↦ λ is. let b = pause_bounds xs i pause is in let begun = b.begun in let over = b.over in told_front start xs e pause (omega arith) (omega arith)
    ] refl

pub endings_push : (start : State) (xs : List Entry) (e : Entry) → endings start (xs ++ e ∷ []) ≡ endings start xs ++ cons_option (ending_at start (xs ++ e ∷ []) (length xs)) []
unfolding endings
endings_push start xs e =
    filter_map_by_map (ending_at start (xs ++ e ∷ [])) (places (xs ++ e ∷ []))
    ∙ ap (filter_map (λ o. o)) (places_push (ending_at start (xs ++ e ∷ [])) (ending_at start xs) xs e (ending_at_front start xs e))
    ∙ filter_map-append (λ o. o) (map (ending_at start xs) (places xs)) (ending_at start (xs ++ e ∷ []) (length xs) ∷ [])
    ∙ ap (λ ys. ys ++ cons_option (ending_at start (xs ++ e ∷ []) (length xs)) []) (sym (filter_map_by_map (ending_at start xs) (places xs)))

no_ending : (start : State) (xs : List Entry) (e : Entry) → resumed_hart e ≡ None → ending_at start (xs ++ e ∷ []) (length xs) ≡ None
unfolding ending_at pause_ended
no_ending start xs e none = rw (get_last xs e, none) refl

pub endings_stay : (start : State) (xs : List Entry) (e : Entry) → resumed_hart e ≡ None → endings start (xs ++ e ∷ []) ≡ endings start xs
endings_stay start xs e none =
    endings_push start xs e ∙ ap (λ o. endings start xs ++ cons_option o []) (no_ending start xs e none) ∙ append-nil (endings start xs)

pause_now : (xs : List Entry) (h : ℕ) (o : Opening) → opening_of xs h ≡ Some o → pause_ended (xs ++ Resumed h ∷ []) (length xs) ≡ Some (ended (length xs) o)
unfolding pause_ended
pause_now xs h o found =
    ap (λ (x : Option Entry). option_and_then (λ hart. option_map (ended (length xs)) (opening_of (take (length xs) (xs ++ Resumed h ∷ [])) hart)) (option_and_then resumed_hart x)) (get_last xs (Resumed h))
    ∙ ap (λ (ys : List Entry). option_map (ended (length xs)) (opening_of ys h)) (take-append_seam xs (Resumed h ∷ []))
    ∙ ap (option_map (ended (length xs))) found

pub ending_now : (start : State) (xs : List Entry) (h : ℕ) (o : Opening) (access : Access) → opening_of xs h ≡ Some o → next start xs o.place o.hart ≡ Some access → ending_at start (xs ++ Resumed h ∷ []) (length xs) ≡ Some (ending start xs (ended (length xs) o) access)
unfolding ending_at paused_access
ending_now start xs h o access found would =
    let lt = opening_below xs h o found in
    ap (option_and_then (λ pause. option_map (ending start (xs ++ Resumed h ∷ []) pause) (next start (xs ++ Resumed h ∷ []) pause.paused_at pause.hart))) (pause_now xs h o found)
    ∙ ap (option_map (ending start (xs ++ Resumed h ∷ []) (ended (length xs) o))) (next_front start xs (Resumed h ∷ []) o.place o.hart (omega arith) ∙ would)
    ∙ ap Some (ending_front start xs (Resumed h ∷ []) (ended (length xs) o) access lt (omega arith))

pub endings_resume : (start : State) (xs : List Entry) (h : ℕ) (o : Opening) (access : Access) → opening_of xs h ≡ Some o → next start xs o.place o.hart ≡ Some access → endings start (xs ++ Resumed h ∷ []) ≡ endings start xs ++ ending start xs (ended (length xs) o) access ∷ []
endings_resume start xs h o access found would =
    endings_push start xs (Resumed h) ∙ ap (λ e. endings start xs ++ cons_option e []) (ending_now start xs h o access found would)

at_end : (es : List Ending) (e : Ending) → slice_get (es ++ e ∷ []) (length es) ≡ Some e
at_end [] e = refl
at_end (first ∷ es) e = at_end es e

last_got : (es : List Ending) (e : Ending) → slice_get (es ++ e ∷ []) (length (es ++ e ∷ []) - 1) ≡ Some e
last_got es e =
    let many = length-append es (e ∷ []) in
    let place : length (es ++ e ∷ []) - 1 ≡ length es = omega (arith, many) in
    ap (slice_get (es ++ e ∷ [])) place ∙ at_end es e

not_none : (es : List Ending) (e : Ending) → 0 < length (es ++ e ∷ [])
not_none es e = let many = length-append es (e ∷ []) in omega (arith, many)

-- a resumption's ending is the last
pub told_last : (start : State) (xs : List Entry) (h : ℕ) (o : Opening) (access : Access) → opening_of xs h ≡ Some o → next start xs o.place o.hart ≡ Some access → ending_at start (xs ++ Resumed h ∷ []) (length xs) ≡ slice_get (endings start (xs ++ Resumed h ∷ [])) (length (endings start (xs ++ Resumed h ∷ [])) - 1)
told_last start xs h o access found would =
    let told = ending start xs (ended (length xs) o) access in
    ending_now start xs h o access found would
    ∙ sym (ap (λ (es : List Ending). slice_get es (length es - 1)) (endings_resume start xs h o access found would) ∙ last_got (endings start xs) told)

pub some_told : (start : State) (xs : List Entry) (h : ℕ) (o : Opening) (access : Access) → opening_of xs h ≡ Some o → next start xs o.place o.hart ≡ Some access → 0 < length (endings start (xs ++ Resumed h ∷ []))
some_told start xs h o access found would =
    subst (λ (es : List Ending). 0 < length es) (sym (endings_resume start xs h o access found would)) (not_none (endings start xs) (ending start xs (ended (length xs) o) access))
