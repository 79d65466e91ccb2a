-- What a pause and its end find in the core.
use Rattle.std.proofs.Common.{◌≡◌, ℕ, zero, suc, ◌+◌, ◌<◌, Bool, true, false, cond, List, [], ◌∷◌, length, Option, Some, None, map, refl, sym, ap, subst, ◌∙◌, arith, add-zero, zero-add}
use Rattle.std.specs.Prelude.{◌==◌, not, find, slice_get, slice_set, is_none, is_some, option_and_then, IsSome, IsSomeAnd, IfSome, IfNone}
use Rattle.std.specs.List.{range_with_len}
use Rattle.std.specs.Option.{option_map_or}
use Rattle.rv_break.specs.Breakpoints.{Breaks}
use Rattle.rv_break.specs.Slots.{IsClaimed, free_slot, seen_by}
use Rattle.rv_break.specs.Slots as slots
use Rattle.rv_break.specs.declared.claim.Claim.{Claim}
use Rattle.rv_break.specs.declared.claim.Seen.{Seen}
use Rattle.rv_collide.specs.First.{first, seen_at}
use Rattle.rv_collide.specs.Forced.{is_taken, least_free}
use Rattle.rv_collide.specs.Next.{next}
use Rattle.rv_collide.specs.Pause.{Opening, ended, opening_of, openings}
use Rattle.rv_collide.specs.StateAt.{state_at}
use Rattle.rv_collide.specs.Verdict.{bytes_at, ending, verdict, verdict_of, watched}
use Rattle.rv_collide.specs.declared.ending.Ending.{Ending}
use Rattle.rv_collide.specs.declared.entry.Entry.{Entry}
use Rattle.rv_collide.specs.declared.open_pause.OpenPause.{OpenPause}
use Rattle.rv_collide.specs.internal.Core.{AreApart, AreKept, claim_of, is_at, opening, slot_at, slots_of}
use Rattle.rv_hart.specs.NextAccess.{next_access}
use Rattle.rv_hart.specs.ReservationLaws.{SizesOfAccesses}
use Rattle.rv_hart.specs.State.{State}
use Rattle.rv_hart.specs.declared.access.Access.{Access}
use Rattle.rv_memory.specs.Memory.{IsSize, load}
use Rattle.rv_collide.proofs.Growth.{slots_claimed}
use Rattle.rv_collide.proofs.Lists.{any_is_some, find_range, first_free}
use Rattle.rv_collide.proofs.Resumptions.{claimed}

-- ---- accesses and bytes

size_in : SizesOfAccesses → (h : ℕ) (a : Access) (o : Option State) → option_and_then (λ (s : State). next_access s h) o ≡ Some a → IsSize a.size
size_in law h a None would = cc
size_in law h a (Some s) would = law s h a would

pub size_of : SizesOfAccesses → (start : State) (xs : List Entry) (n h : ℕ) (a : Access) → next start xs n h ≡ Some a → IsSize a.size
unfolding next
size_of law start xs n h a would = size_in law h a (state_at start xs n) would

pub bytes_now : (start s : State) (xs : List Entry) (n : ℕ) (a : Access) → state_at start xs n ≡ Some s → load s.memory a.first a.size ≡ bytes_at start xs n a
unfolding bytes_at
bytes_now start s xs n a at = sym (ap (λ (o : Option State). option_map_or (λ (s : State). load s.memory a.first a.size) o 0) at)

-- ---- the least free slot

claim_some : (start : State) (xs : List Entry) (o : Opening) (a : Access) → next start xs o.place o.hart ≡ Some a → is_none (claim_of start xs o) ≡ false
unfolding claim_of
claim_some start xs o a would = rw would refl

kept_claims : (slot_count : ℕ) (start : State) (xs : List Entry) (t : Opening → Bool) (ps : List OpenPause) → AreKept slot_count start xs ps → is_none (option_and_then (claim_of start xs) (find t (map opening ps))) ≡ not (is_some (find t (map opening ps)))
kept_claims slot_count start xs t [] kept = refl
kept_claims slot_count start xs t (p ∷ ps) kept =
    elim (t (opening p)) as (λ b. is_none (option_and_then (claim_of start xs) (cond b (Some (opening p)) (find t (map opening ps)))) ≡ not (is_some (cond b (Some (opening p)) (find t (map opening ps))))) [
      | true ↦ (let k = kept.0 in claim_some start xs (opening p) p.access k.access)
      | false ↦ kept_claims slot_count start xs t ps kept.1
    ]

free_if : (slot_count : ℕ) (start : State) (xs : List Entry) (opened : List OpenPause) (slot : ℕ) → AreKept slot_count start xs opened → map opening opened ≡ openings xs → is_none (slot_at start xs slot) ≡ not (is_taken xs slot)
unfolding slot_at is_taken
free_if slot_count start xs opened slot kept are =
    ap (λ os. is_none (option_and_then (claim_of start xs) (find (is_at slot) os))) (sym are)
    ∙ kept_claims slot_count start xs (is_at slot) opened kept
    ∙ ap (λ os. not (is_some (find (is_at slot) os))) are
    ∙ ap not (sym (any_is_some (is_at slot) (openings xs)))

pub least_is_free : (slot_count : ℕ) (start : State) (xs : List Entry) (opened : List OpenPause) → AreKept slot_count start xs opened → map opening opened ≡ openings xs → free_slot (slots_of slot_count start xs) ≡ least_free slot_count xs
unfolding slots_of least_free
least_is_free slot_count start xs opened kept are =
    first_free is_none (slot_at start xs) slot_count
    ∙ find_range (λ slot. is_none (slot_at start xs slot)) (λ slot. not (is_taken xs slot)) 0 slot_count (λ i lo hi. free_if slot_count start xs opened i kept are)

pub record Claimed (slot : Option ℕ) (h : ℕ) (a : Access) (b b' : Breaks) : Type 0 where
  pub armed : b'.armed ≡ b.armed
  pub slots : b'.slots ≡ slots_claimed slot h a b.slots

pub claim_made : (slot : Option ℕ) (h : ℕ) (a : Access) (b b' : Breaks) → IfSome slot (λ s. b' ≡ record b { slots = slice_set b.slots s (Some (record { hart = h; access = a; seen = None })) }) → IfNone slot (b' ≡ b) → Claimed slot h a b b'
claim_made None h a b b' some none = record { armed = ap (λ (x : Breaks). x.armed) none; slots = ap (λ (x : Breaks). x.slots) none }
claim_made (Some slot) h a b b' some none = record { armed = ap (λ (x : Breaks). x.armed) some; slots = ap (λ (x : Breaks). x.slots) some }

-- ---- the end of a pause

shift : (a n : ℕ) → a + 1 + n ≡ a + suc n
shift a n = omega arith

get_range : {X : Type 0} → (f : ℕ → X) (a n i : ℕ) → i < n → slice_get (map f (range_with_len a n)) i ≡ Some (f (a + i))
get_range f a zero i lt = absurd (omega arith)
get_range f a (suc n) zero lt = ap (λ k. Some (f k)) (sym (add-zero a))
get_range f a (suc n) (suc i) lt = get_range f (a + 1) n i (omega arith) ∙ ap (λ k. Some (f k)) (shift a i)

get_slot : (slot_count : ℕ) (start : State) (xs : List Entry) (slot : ℕ) → slot < slot_count → slice_get (slots_of slot_count start xs) slot ≡ Some (slot_at start xs slot)
unfolding slots_of
get_slot slot_count start xs slot lt = get_range (slot_at start xs) 0 slot_count slot lt ∙ ap (λ k. Some (slot_at start xs k)) (zero-add slot)

abbrev the_claim : State → List Entry → Opening → Access → Claim
the_claim start xs o a = record { hart = o.hart; access = a; seen = option_and_then (seen_at start xs) (first start xs (ended (length xs) o)) }

claim_is : (start : State) (xs : List Entry) (o : Opening) (a : Access) → next start xs o.place o.hart ≡ Some a → claim_of start xs o ≡ Some (the_claim start xs o a)
unfolding claim_of
claim_is start xs o a would = rw would refl

slot_is : (slot_count : ℕ) (start : State) (xs : List Entry) (h slot : ℕ) (o : Opening) (a : Access) → AreApart (openings xs) → opening_of xs h ≡ Some o → o.slot ≡ Some slot → slot < slot_count → next start xs o.place o.hart ≡ Some a → slice_get (slots_of slot_count start xs) slot ≡ Some (Some (the_claim start xs o a))
slot_is slot_count start xs h slot o a apart found is lt would =
    get_slot slot_count start xs slot lt ∙ ap Some (claimed start xs h slot o apart found is ∙ claim_is start xs o a would)

module _ (start : State) (xs : List Entry) (h : ℕ) (o : Opening) (a : Access) (apart : AreApart (openings xs)) (found : opening_of xs h ≡ Some o) (would : next start xs o.place o.hart ≡ Some a) where
  pub slot_claimed : (slot_count : ℕ) (slot : Option ℕ) → o.slot ≡ slot → IfSome slot (λ s. s < slot_count) → IfSome slot (λ s. IsClaimed (slots_of slot_count start xs) s)
  slot_claimed slot_count None is lt = tt
  slot_claimed slot_count (Some slot) is lt =
      subst (λ (c : Option (Option Claim)). IsSomeAnd c IsSome) (sym (slot_is slot_count start xs h slot o a apart found is lt would)) refl

  pub slot_seen : (slot_count : ℕ) (slot : Option ℕ) → o.slot ≡ slot → IfSome slot (λ s. s < slot_count) → option_and_then (slots.seen_at (slots_of slot_count start xs)) slot ≡ watched start xs (ended (length xs) o)
  unfolding watched
  slot_seen slot_count None is lt = ap (λ s. cond (is_some s) (option_and_then (seen_at start xs) (first start xs (ended (length xs) o))) None) (sym is)
  slot_seen slot_count (Some slot) is lt =
      ap (option_and_then seen_by) (slot_is slot_count start xs h slot o a apart found is lt would)
      ∙ ap (λ s. cond (is_some s) (option_and_then (seen_at start xs) (first start xs (ended (length xs) o))) None) (sym is)

-- what is told of a pause is its ending
pub told : (start : State) (xs : List Entry) (p : OpenPause) (seen : Option Seen) (n new : ℕ) → p.old ≡ bytes_at start xs p.place p.access → seen ≡ watched start xs (ended (length xs) (opening p)) → n ≡ length xs → new ≡ bytes_at start xs (length xs) p.access → (let e : Ending = record { hart = p.hart; paused_at = p.place; resumed_at = n; access = p.access; slot = p.slot; verdict = verdict_of seen (p.old == new); old = p.old; new = new } in e) ≡ ending start xs (ended (length xs) (opening p)) p.access
unfolding ending verdict
told start xs p seen n new old_is seen_is n_is new_is = rw (old_is, seen_is, n_is, new_is) refl
