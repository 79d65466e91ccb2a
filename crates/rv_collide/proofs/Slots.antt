-- The slots after one more entry.
use Rattle.std.proofs.Common.{◌≡◌, ◌≢◌, ℕ, ◌+◌, ◌≤◌, ◌<◌, Bool, true, false, cond, List, [], ◌∷◌, ◌++◌, length, Option, Some, None, map, set, refl, sym, ap, subst, ◌∙◌, arith, length-append, zero-add}
use Rattle.std.specs.Prelude.{◌==◌, ◌||◌, not, find, option_and_then, option_map}
use Rattle.std.specs.List.{list_any, range_with_len}
use Rattle.std.specs.Option.{option_map_or, option_or}
use Rattle.std.proofs.lemmas.Bool.Decides.{nat_tests}
use Rattle.std.proofs.lemmas.List.Folds.{find-append}
use Rattle.rv_break.specs.Slots.{slots_after}
use Rattle.rv_break.specs.declared.claim.Claim.{Claim}
use Rattle.rv_break.specs.declared.claim.Seen.{Seen}
use Rattle.rv_collide.specs.Entries.{stepped_hart, stepped_at}
use Rattle.rv_collide.specs.First.{first, seen_at}
use Rattle.rv_collide.specs.Forced.{is_taken}
use Rattle.rv_collide.specs.Next.{next}
use Rattle.rv_collide.specs.Pause.{Opening, within, openings, openings_from, opened, resumes}
use Rattle.rv_collide.specs.declared.entry.Entry.{Entry}
use Rattle.rv_collide.specs.declared.entry.Entry.TheVariants.{Stepped, Paused, Resumed, Armed, Disarmed}
use Rattle.rv_collide.specs.internal.Core.{claim_of, is_at, slot_at, slots_of}
use Rattle.rv_hart.specs.State.{State}
use Rattle.rv_hart.specs.declared.access.Access.{Access}
use Rattle.rv_collide.proofs.LawLemmas.{some_same}
use Rattle.rv_collide.proofs.Lists.{set_range, map_range_all, map_twice, map_same}
use Rattle.rv_collide.proofs.Openings.{openings_push}
use Rattle.rv_collide.proofs.Places.{shown, claim_push, between_none}
use Rattle.rv_collide.proofs.Prefix.{get_last, next_front}

-- ---- places of openings

abbrev pub AreBelow : ℕ → List Opening → Type 0
AreBelow n [] = Unit {0}
AreBelow n (o ∷ os) = (o.place < n) × AreBelow n os

below_append : (n : ℕ) (xs ys : List Opening) → AreBelow n xs → AreBelow n ys → AreBelow n (xs ++ ys)
below_append n [] ys a b = b
below_append n (x ∷ xs) ys a b = (a.0, below_append n xs ys a.1 b)

opened_below : (n place : ℕ) (e : Entry) (later : List Entry) → place < n → AreBelow n (opened place e later)
opened_below n place (Paused h slot) later lt = elim (list_any (resumes h) later) as (λ b. AreBelow n (cond b [] (record { hart = h; slot = slot; place = place } ∷ []))) [ true ↦ tt | false ↦ (lt, tt) ]
opened_below n place (Stepped h) later lt = tt
opened_below n place (Resumed h) later lt = tt
opened_below n place (Armed a) later lt = tt
opened_below n place (Disarmed a) later lt = tt

from_below : (n place : ℕ) (xs : List Entry) → place + length xs ≤ n → AreBelow n (openings_from place xs)
unfolding openings_from
from_below n place [] le = tt
from_below n place (x ∷ xs) le = below_append n (opened place x xs) (openings_from (place + 1) xs) (opened_below n place x xs (omega arith)) (from_below n (place + 1) xs (omega arith))

pub openings_below : (xs : List Entry) → AreBelow (length xs) (openings xs)
unfolding openings
openings_below xs = from_below (length xs) 0 xs (omega (arith, zero-add (length xs)))

pub find_below : (n : ℕ) (t : Opening → Bool) (os : List Opening) (o : Opening) → AreBelow n os → find t os ≡ Some o → o.place < n
find_below n t [] o below h = cc
find_below n t (x ∷ os) o below h =
    elim (t x) as (λ b. cond b (Some x) (find t os) ≡ Some o → o.place < n) [
      | true ↦ λ e. subst (λ (p : Opening). p.place < n) (some_same x o e) below.0
      | false ↦ λ e. find_below n t os o below.1 e
    ] h

-- ---- what an entry shows the claims

pub seen_none : (start : State) (xs : List Entry) (e : Entry) → stepped_hart e ≡ None → seen_at start (xs ++ e ∷ []) (length xs) ≡ None
unfolding seen_at stepped_at
seen_none start xs e none = rw (get_last xs e, none) refl

pub found_push : (start : State) (xs : List Entry) (e : Entry) (t : Opening → Bool) → option_and_then (claim_of start (xs ++ e ∷ [])) (find t (openings xs)) ≡ option_map (shown (seen_at start (xs ++ e ∷ []) (length xs))) (option_and_then (claim_of start xs) (find t (openings xs)))
found_push start xs e t =
    elim (find t (openings xs)) as (λ (f : Option Opening). find t (openings xs) ≡ f → option_and_then (claim_of start (xs ++ e ∷ [])) f ≡ option_map (shown (seen_at start (xs ++ e ∷ []) (length xs))) (option_and_then (claim_of start xs) f)) [
      | None ↦ λ found. refl
      | Some o ↦ λ found. claim_push start xs e o (find_below (length xs) t (openings xs) o (openings_below xs) found)
    ] refl

pub map_none : (o : Option Claim) → option_map (shown None) o ≡ o
map_none None = refl
map_none (Some c) = refl

-- an entry that neither pauses nor resumes a hart
pub slots_stay : (slot_count : ℕ) (start : State) (xs : List Entry) (e : Entry) → openings (xs ++ e ∷ []) ≡ openings xs → slots_of slot_count start (xs ++ e ∷ []) ≡ map (option_map (shown (seen_at start (xs ++ e ∷ []) (length xs)))) (slots_of slot_count start xs)
unfolding slots_of slot_at
slots_stay slot_count start xs e same =
    map_range_all (λ slot. option_and_then (claim_of start (xs ++ e ∷ [])) (find (is_at slot) (openings (xs ++ e ∷ [])))) (λ slot. option_map (shown (seen_at start (xs ++ e ∷ []) (length xs))) (slot_at start xs slot)) 0 slot_count
    (λ slot. ap (λ os. option_and_then (claim_of start (xs ++ e ∷ [])) (find (is_at slot) os)) same ∙ found_push start xs e (is_at slot))
    ∙ sym (map_twice (option_map (shown (seen_at start (xs ++ e ∷ []) (length xs)))) (slot_at start xs) (range_with_len 0 slot_count))

-- and shows the claims nothing
pub slots_quiet : (slot_count : ℕ) (start : State) (xs : List Entry) (e : Entry) → openings (xs ++ e ∷ []) ≡ openings xs → seen_at start (xs ++ e ∷ []) (length xs) ≡ None → slots_of slot_count start (xs ++ e ∷ []) ≡ slots_of slot_count start xs
slots_quiet slot_count start xs e same none =
    slots_stay slot_count start xs e same ∙ ap (λ s. map (option_map (shown s)) (slots_of slot_count start xs)) none ∙ map_same (option_map (shown None)) (slots_of slot_count start xs) map_none

pub slots_shown : (slot_count : ℕ) (start : State) (xs : List Entry) (e : Entry) (seen : Seen) → openings (xs ++ e ∷ []) ≡ openings xs → seen_at start (xs ++ e ∷ []) (length xs) ≡ Some seen → slots_of slot_count start (xs ++ e ∷ []) ≡ slots_after seen (slots_of slot_count start xs)
slots_shown slot_count start xs e seen same is =
    slots_stay slot_count start xs e same ∙ ap (λ s. map (option_map (shown s)) (slots_of slot_count start xs)) is

-- ---- a pause

pub openings_pause : (xs : List Entry) (h : ℕ) (slot : Option ℕ) → openings (xs ++ Paused h slot ∷ []) ≡ openings xs ++ record { hart = h; slot = slot; place = length xs } ∷ []
unfolding openings
openings_pause xs h slot = openings_push 0 xs (Paused h slot) (λ k. refl) ∙ ap (λ n. openings_from 0 xs ++ record { hart = h; slot = slot; place = n } ∷ []) (zero-add (length xs))

-- the claim of a pause that has just begun has seen nothing
new_claim : (start : State) (xs : List Entry) (h : ℕ) (slot : Option ℕ) (access : Access) → next start xs (length xs) h ≡ Some access → claim_of start (xs ++ Paused h slot ∷ []) (record { hart = h; slot = slot; place = length xs }) ≡ Some (record { hart = h; access = access; seen = None })
unfolding claim_of first within
new_claim start xs h slot access would =
    rw (length-append xs (Paused h slot ∷ []), between_none (length xs), next_front start xs (Paused h slot ∷ []) (length xs) h (omega arith), would) refl

eq_itself : (a : ℕ) → (a == a) ≡ true
eq_itself a = grind (arith, nat_tests)

eq_other : (a b : ℕ) → b ≢ a → (a == b) ≡ false
eq_other a b ne = grind (arith, nat_tests)

slot_now : (start : State) (xs : List Entry) (h : ℕ) (taken : Option ℕ) (slot : ℕ) → slot_at start (xs ++ Paused h taken ∷ []) slot ≡ option_and_then (claim_of start (xs ++ Paused h taken ∷ [])) (option_or (find (is_at slot) (openings xs)) (cond (option_map_or (λ other. other == slot) taken false) (Some (record { hart = h; slot = taken; place = length xs })) None))
unfolding slot_at
slot_now start xs h taken slot =
    ap (λ os. option_and_then (claim_of start (xs ++ Paused h taken ∷ [])) (find (is_at slot) os)) (openings_pause xs h taken)
    ∙ ap (option_and_then (claim_of start (xs ++ Paused h taken ∷ []))) (find-append (is_at slot) (openings xs) (record { hart = h; slot = taken; place = length xs } ∷ []))

or_nothing : {X : Type 0} → (o : Option X) → option_or o None ≡ o
or_nothing None = refl
or_nothing (Some x) = refl

-- a slot that the pause does not take
slot_else : (start : State) (xs : List Entry) (h : ℕ) (taken : Option ℕ) (slot : ℕ) → option_map_or (λ other. other == slot) taken false ≡ false → slot_at start (xs ++ Paused h taken ∷ []) slot ≡ slot_at start xs slot
unfolding slot_at
slot_else start xs h taken slot other =
    slot_now start xs h taken slot
    ∙ ap (λ b. option_and_then (claim_of start (xs ++ Paused h taken ∷ [])) (option_or (find (is_at slot) (openings xs)) (cond b (Some (record { hart = h; slot = taken; place = length xs })) None))) other
    ∙ ap (option_and_then (claim_of start (xs ++ Paused h taken ∷ []))) (or_nothing (find (is_at slot) (openings xs)))
    ∙ found_push start xs (Paused h taken) (is_at slot)
    ∙ ap (λ s. option_map (shown s) (option_and_then (claim_of start xs) (find (is_at slot) (openings xs)))) (seen_none start xs (Paused h taken) refl)
    ∙ map_none (option_and_then (claim_of start xs) (find (is_at slot) (openings xs)))

pub slots_pause_none : (slot_count : ℕ) (start : State) (xs : List Entry) (h : ℕ) → slots_of slot_count start (xs ++ Paused h None ∷ []) ≡ slots_of slot_count start xs
unfolding slots_of
slots_pause_none slot_count start xs h = map_range_all (slot_at start (xs ++ Paused h None ∷ [])) (slot_at start xs) 0 slot_count (λ slot. slot_else start xs h None slot refl)

not_found : (t : Opening → Bool) (os : List Opening) → not (list_any t os) ≡ true → find t os ≡ None
not_found t [] h = refl
not_found t (o ∷ os) h =
    elim (t o) as (λ b. not (b || list_any t os) ≡ true → cond b (Some o) (find t os) ≡ None) [ true ↦ λ e. cc | false ↦ λ e. not_found t os e ] h

pub slots_pause : (slot_count : ℕ) (start : State) (xs : List Entry) (h slot : ℕ) (access : Access) → next start xs (length xs) h ≡ Some access → not (is_taken xs slot) ≡ true → slots_of slot_count start (xs ++ Paused h (Some slot) ∷ []) ≡ set (slots_of slot_count start xs) slot (Some (record { hart = h; access = access; seen = None }))
unfolding slots_of is_taken
slots_pause slot_count start xs h slot access would free =
    sym (set_range (slot_at start xs) (slot_at start (xs ++ Paused h (Some slot) ∷ [])) 0 slot_count slot (Some (record { hart = h; access = access; seen = None }))
    (ap (slot_at start (xs ++ Paused h (Some slot) ∷ [])) (zero-add slot) ∙ slot_now start xs h (Some slot) slot
    ∙ ap (λ b. option_and_then (claim_of start (xs ++ Paused h (Some slot) ∷ [])) (option_or (find (is_at slot) (openings xs)) (cond b (Some (record { hart = h; slot = Some slot; place = length xs })) None))) (eq_itself slot)
    ∙ ap (λ f. option_and_then (claim_of start (xs ++ Paused h (Some slot) ∷ [])) (option_or f (Some (record { hart = h; slot = Some slot; place = length xs })))) (not_found (is_at slot) (openings xs) free)
    ∙ new_claim start xs h (Some slot) access would)
    (λ j ne. slot_else start xs h (Some slot) j (eq_other slot j (λ e. ne (e ∙ sym (zero-add slot))))))
