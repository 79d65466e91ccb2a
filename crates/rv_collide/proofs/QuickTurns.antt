-- A turn that is accepted, and a step after which its hart runs on.
use Rattle.std.proofs.Common.{IfNone, ◌≡◌, ℕ, ◌+◌, ◌<◌, Bool, true, false, cond, List, [], ◌∷◌, ◌++◌, length, Option, Some, None, Result, Ok, Err, refl, sym, ap, subst, ◌∙◌, arith}
use Rattle.std.specs.Prelude.{◌==◌, find, nat_lt, is_ok, is_some, option_and_then, slice_get, IfSome}
use Rattle.std.specs.FinSet.{contains}
use Rattle.std.proofs.lemmas.Bool.Decides.{nat_tests}
use Rattle.rv_collide.specs.Detected.{Adds, IsArmedAccess, IsEvent, IsWord, MayPause, StepsOn}
use Rattle.rv_collide.specs.Entries.{steps}
use Rattle.rv_collide.specs.Armed.{armed}
use Rattle.rv_collide.specs.Forced.{Setting, Turn, forced, least_free, turn_entry}
use Rattle.rv_collide.specs.Next.{plain, runs_at}
use Rattle.rv_collide.specs.Pause.{Opening, opening_of, openings, openings_from}
use Rattle.rv_collide.specs.Begun.{Begun, added, setting_of}
use Rattle.rv_collide.specs.declared.entry.Entry.{Entry}
use Rattle.rv_collide.specs.declared.entry.Entry.TheVariants.{Paused, Stepped}
use Rattle.rv_collide.specs.declared.refused.Refused.{Refused}
use Rattle.rv_collide.specs.StateAt.{state_at}
use Rattle.rv_hart.specs.Fetched.{IsWordOf}
use Rattle.rv_hart.specs.State.{State}
use Rattle.rv_hart.specs.Common.{NotesKept, event_of_common}
use Rattle.rv_collide.specs.internal.GoesOn.{GoesOn}
use Rattle.rv_hart.specs.NextAccess.{access_of_step, accessed, at_plain, next_access, next_plain}
use Rattle.rv_hart.specs.Step.{step_of}
use Rattle.rv_hart.specs.StepLaws.{MovesRunOn}
use Rattle.rv_hart.specs.declared.access.Access.{Access}
use Rattle.rv_hart.specs.declared.access.Common.{Common}
use Rattle.rv_hart.specs.declared.access.Common.TheVariants.{Untaken, Silent, Accessed}
use Rattle.rv_hart.specs.declared.access.Event.{Event}
use Rattle.rv_hart.specs.declared.access.Noted.{Noted}
use Rattle.rv_hart.specs.declared.access.Event.TheVariants.{Moved}
use Rattle.rv_collide.proofs.ArmedAccesses.{armed_turn}
use Rattle.rv_collide.proofs.Calls.{turn_ok}
use Rattle.rv_collide.proofs.GoesOn.{runs_there}
use Rattle.rv_collide.proofs.Growth.{turn_parts}
use Rattle.rv_collide.proofs.LawLemmas.{wanted}
use Rattle.rv_collide.proofs.Openings.{openings_push}
use Rattle.rv_collide.proofs.Prefix.{state_step}

-- ---- what an accepted turn says of its hart

pub record MayTurn (setting : Setting) (xs : List Entry) (h : ℕ) : Type 0 where
  pub within : h < setting.plan.harts
  pub runs : runs_at setting.start xs (length xs) h ≡ true
  pub free : is_some (opening_of xs h) ≡ false
  pub left : nat_lt (length (steps xs)) setting.plan.steps ≡ true

below_of : (a b : ℕ) → nat_lt a b ≡ true → a < b
below_of a b h = grind (arith, nat_tests)

lt_is : (a b : ℕ) → a < b → nat_lt a b ≡ true
lt_is a b h = grind (arith, nat_tests)

turn_within : (setting : Setting) (xs : List Entry) (h : ℕ) (e : Entry) → forced setting xs (Turn h) ≡ Ok e → h < setting.plan.harts
unfolding forced
turn_within setting xs h e ok = below_of h setting.plan.harts (wanted (nat_lt h setting.plan.harts) _ _ e ok).0

by_answer : (setting : Setting) (xs : List Entry) (h : ℕ) (r : Result Entry Refused) → forced setting xs (Turn h) ≡ r → is_ok r ≡ true → MayTurn setting xs h
by_answer setting xs h (Err fault) is ok = cc
by_answer setting xs h (Ok e) is ok =
    let parts = turn_parts setting xs h e is in
    record {
      within = turn_within setting xs h e is;
      runs = parts.runs;
      free = parts.not_open;
      left = lt_is (length (steps xs)) setting.plan.steps parts.left;
    }

pub may_turn : (setting : Setting) (xs : List Entry) (h : ℕ) → is_ok (forced setting xs (Turn h)) ≡ true → MayTurn setting xs h
may_turn setting xs h ok = by_answer setting xs h (forced setting xs (Turn h)) refl ok

-- ---- a step whose access no code breakpoint keeps back

passes_by : (c : Begun) (h : ℕ) (o : Option Access) → IfSome o (λ access. contains (armed (setting_of c).start c.entries) access.pc ≡ false) → turn_entry (setting_of c) c.entries h o ≡ Stepped h
passes_by c h None passed = refl
passes_by c h (Some access) passed = ap (λ b. cond b (Paused h (least_free c.plan.slots c.entries)) (Stepped h)) passed

if_some : (b : Bool) (o : Option Access) (kept : ℕ → Bool) → IfSome o (λ access. kept access.pc ≡ false) → IfSome (cond b o None) (λ access. kept access.pc ≡ false)
if_some true o kept passed = passed
if_some false o kept passed = tt

-- then the hart's turn is a step
pub plain_passes : (c : Begun) (s t : State) (h : ℕ) (event : Event) → state_at (setting_of c).start c.entries (length c.entries) ≡ Some s → step_of s h ≡ Some (event, t) → IfSome (accessed event) (λ access. contains (armed (setting_of c).start c.entries) access.pc ≡ false) → turn_entry (setting_of c) c.entries h (plain (setting_of c).start c.entries (length c.entries) h) ≡ Stepped h
unfolding plain next_plain next_access
plain_passes c s t h event at step passed =
    let is_armed : ℕ → Bool = contains (armed (setting_of c).start c.entries) in
    let made : accessed event ≡ access_of_step (step_of s h) = sym (ap access_of_step step) in
    let next : IfSome (access_of_step (step_of s h)) (λ access. is_armed access.pc ≡ false) = subst (λ (o : Option Access). IfSome o (λ access. is_armed access.pc ≡ false)) made passed in
    let plain_is = ap (λ (o : Option State). option_and_then (λ s. next_plain s h) o) at in
    ap (λ (o : Option Access). turn_entry (setting_of c) c.entries h o) plain_is ∙ passes_by c h (next_plain s h) (if_some (at_plain s.memory (slice_get s.harts h)) (access_of_step (step_of s h)) is_armed next)

-- the turn goes on: it did before the step was made where nothing is watched, and else by the access that was made
pub goes_on : (watched : Bool) (c : Begun) (s t : State) (h : ℕ) (event : Event) → is_ok (forced (setting_of c) c.entries (Turn h)) ≡ true → (watched ≡ false → GoesOn c h) → state_at (setting_of c).start c.entries (length c.entries) ≡ Some s → step_of s h ≡ Some (event, t) → (watched ≡ true → IfSome (accessed event) (λ access. contains (armed (setting_of c).start c.entries) access.pc ≡ false)) → GoesOn c h
goes_on false c s t h event ok goes at step passed = goes refl
goes_on true c s t h event ok goes at step passed =
    let may = may_turn (setting_of c) c.entries h ok in
    record { free = may.free; left = may.left; passes = plain_passes c s t h event at step (passed refl) }

-- ---- a common step

runs_after : MovesRunOn → (c : Begun) (h : ℕ) (event : Event) → IsEvent c h event → event ≡ Moved (accessed event) → runs_at (setting_of c).start (c.entries ++ Stepped h ∷ []) (length (c.entries ++ Stepped h ∷ [])) h ≡ true
runs_after law c h event is moved =
    let at = state_step (setting_of c).start is.state is.after c.entries h event is.reached is.step in
    let step = is.step ∙ ap (λ (e : Event). Some (e, is.after)) moved in
    runs_there (setting_of c).start is.after (c.entries ++ Stepped h ∷ []) (length (c.entries ++ Stepped h ∷ [])) h at (law is.state is.after h (accessed event) step)

pub steps_on : MovesRunOn → (old new : Begun) (h : ℕ) (event : Event) → forced (setting_of old) old.entries (Turn h) ≡ Ok (Stepped h) → IsEvent old h event → new ≡ added old (Stepped h) → event ≡ Moved (accessed event) → StepsOn old new h
steps_on law old new h event is_forced is_event is_added moved = record {
  event = event;
  turns = (record { is_forced = is_forced; is_added = is_added }, is_event);
  runs = subst (λ (c : Begun). runs_at (setting_of c).start c.entries (length c.entries) h ≡ true) (sym is_added) (runs_after law old h event is_event moved);
}

-- the event of a common step that was made, which moves on
pub record Made (common : Common) (noted : Access) : Type 0 where
  pub event : Event
  pub event_is : event_of_common common noted ≡ Some event
  pub moved : event ≡ Moved (accessed event)

pub made : (common : Common) (noted : Access) → (common ≡ Untaken → ⊥) → Made common noted
made Untaken noted taken = absurd (taken refl)
made Silent noted taken = record { event = Moved None; event_is = refl; moved = refl }
made Accessed noted taken = record { event = Moved (Some noted); event_is = refl; moved = refl }

pub same_state : {s t : State} → Some s ≡ Some t → s ≡ t
same_state same = cc

-- a word that the machine has found
pub word_found : (c : Begun) (s : State) (h : ℕ) (found : Option ℕ) → state_at (setting_of c).start c.entries (length c.entries) ≡ Some s → IfSome found (IsWordOf s h) → IfSome found (IsWord c h)
word_found c s h None at is = tt
word_found c s h (Some word) at is = record { state = s; reached = at; word_is = is }

-- ---- a plain access that is kept back

is_kept : (b : Bool) → (b ≡ true → ⊥) → b ≡ false
is_kept true never = absurd (never refl)
is_kept false never = refl

-- a step that was made keeps none back
pub not_kept : (s : State) (h : ℕ) (common : Common) (before after : Noted) → before.is_kept_back ≡ false → NotesKept s h common before after → (common ≡ Untaken → ⊥) → after.is_kept_back ≡ false
not_kept s h common before after free kept taken = is_kept after.is_kept_back (λ noted. taken (kept free noted).0)

-- the turn of a hart that would make a plain access at an armed address is its pause
pub may_pause : (c : Begun) (h : ℕ) (a : Access) → is_ok (forced (setting_of c) c.entries (Turn h)) ≡ true → IsArmedAccess c h a → forced (setting_of c) c.entries (Turn h) ≡ Ok (Paused h (least_free c.plan.slots c.entries))
may_pause c h a ok is =
    let may = may_turn (setting_of c) c.entries h ok in
    turn_ok (setting_of c) c.entries h (lt_is h c.plan.harts may.within) may.runs may.free may.left ∙ ap Ok (armed_turn c h a is)

own : (h : ℕ) → (h == h) ≡ true
own h = grind (arith, nat_tests)

pub differ : true ≡ false → ⊥
differ h = cc

found_last : (p : Opening → Bool) (os : List Opening) (o : Opening) → p o ≡ true → is_some (find p (os ++ o ∷ [])) ≡ true
found_last p [] o passes = ap (λ b. is_some (cond b (Some o) None)) passes
found_last p (first ∷ os) o passes =
    elim (p first) as (λ b. is_some (cond b (Some first) (find p (os ++ o ∷ []))) ≡ true) [
      | true ↦ refl
      | false ↦ found_last p os o passes
    ]

-- a hart that was just paused is paused
pub paused_now : (xs : List Entry) (h : ℕ) (slot : Option ℕ) → is_some (opening_of (xs ++ Paused h slot ∷ []) h) ≡ true
unfolding opening_of openings
paused_now xs h slot =
    let last : Opening = record { hart = h; slot = slot; place = 0 + length xs } in
    ap (λ (os : List Opening). is_some (find (λ (o : Opening). o.hart == h) os)) (openings_push 0 xs (Paused h slot) (λ _. refl))
    ∙ found_last (λ (o : Opening). o.hart == h) (openings_from 0 xs) last (own h)

-- where the turn was the hart's pause
pub was_paused : (old new : Begun) (h : ℕ) → Adds old new (Turn h) (Paused h (least_free old.plan.slots old.entries)) → MayPause old new h
was_paused old new h adds =
    let slot = least_free old.plan.slots old.entries in
    let now = ap (λ (v : Begun). is_some (opening_of v.entries h)) adds.is_added ∙ paused_now old.entries h slot in
    record { paused = λ _. adds; still = λ closed. absurd (differ (sym now ∙ closed)) }

-- where nothing was done and the hart is not paused
pub was_still : (old new : Begun) (h : ℕ) → is_ok (forced (setting_of old) old.entries (Turn h)) ≡ true → new ≡ old → MayPause old new h
was_still old new h ok same =
    let free = (may_turn (setting_of old) old.entries h ok).free in
    let now = ap (λ (v : Begun). is_some (opening_of v.entries h)) same ∙ free in
    record { paused = λ held. absurd (differ (sym held ∙ now)); still = λ _. same }

-- the hart was paused, or nothing was done
pub may_pause_now : (old new : Begun) (h : ℕ) (paused : Option (Option ℕ)) → is_ok (forced (setting_of old) old.entries (Turn h)) ≡ true → IfSome paused (λ slot. slot ≡ least_free old.plan.slots old.entries) → IfSome paused (λ slot. forced (setting_of old) old.entries (Turn h) ≡ Ok (Paused h slot)) → IfSome paused (λ slot. new ≡ added old (Paused h slot)) → IfNone paused (new ≡ old) → MayPause old new h
may_pause_now old new h None ok least is_forced after same = was_still old new h ok same
may_pause_now old new h (Some slot) ok least is_forced after same =
    was_paused old new h (record {
      is_forced = is_forced ∙ ap (λ (s : Option ℕ). Ok (Paused h s)) least;
      is_added = after ∙ ap (λ (s : Option ℕ). added old (Paused h s)) least;
    })
