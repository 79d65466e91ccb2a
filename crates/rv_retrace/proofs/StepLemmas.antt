-- Where no point is set a step is taken back just where its hart is to make one: the entries alone tell it.
use Rattle.std.proofs.Common.{◌≡◌, ◌∙◌, ℕ, ◌+◌, ◌-◌, ◌<◌, Bool, true, false, Option, Some, None, List, [], ◌∷◌, zero, suc, inl, inr, refl, sym, ap, length, arith}
use Rattle.std.proofs.lemmas.Option.{slice_get_cases, slice_get_within}
use Rattle.std.specs.Prelude.{◌&&◌, ◌||◌, IsSome, if◌then◌else◌, find, option_and_then, option_map, slice_get, unwrap_or}
use Rattle.std.specs.Option.{option_or}
use Rattle.rv_collide.specs.Entries.{stepped_at, stepped_hart}
use Rattle.rv_collide.specs.Laws.{LegalHasStates}
use Rattle.rv_collide.specs.Legal.{IsLegal}
use Rattle.rv_collide.specs.StateAt.{state_at}
use Rattle.rv_collide.specs.WalkLaws.{StepsLeadOn}
use Rattle.rv_collide.specs.declared.entry.Entry.{Entry}
use Rattle.rv_collide.specs.declared.entry.Entry.TheVariants.{Stepped, Paused, Resumed, Armed, Disarmed}
use Rattle.rv_debug.specs.Placed.{Placed, setting}
use Rattle.rv_gdb.specs.Points.{breaks, does, is_seen_by, seen, seen_at, watching}
use Rattle.rv_gdb.specs.Search.{first_in}
use Rattle.rv_gdb.specs.Stops.{trap}
use Rattle.rv_gdb.specs.declared.stop.Stop.{Stop}
use Rattle.rv_gdb.specs.declared.stop.Why.TheVariants.{Stands}
use Rattle.rv_hart.specs.NextAccess.{next_access}
use Rattle.rv_hart.specs.State.{State}
use Rattle.rv_hart.specs.Step.{step_of}
use Rattle.rv_hart.specs.StepLaws.{NoHartLaw}
use Rattle.rv_hart.specs.declared.access.Access.{Access}
use Rattle.rv_hart.specs.declared.access.Event.{Event}
use Rattle.rv_hart.specs.declared.hart.Hart.{Hart}
use Rattle.rv_retrace.specs.Going.{aimed_at, back_stop, is_one, last_in, stop_at, stop_back, taken_back, watched}
use Rattle.rv_retrace.specs.declared.aims.Aims.{Aims}

-- ---- no point sees an access, and none breaks

never : (b : Bool) → (b && false) ≡ false
never true = refl
never false = refl

find_never : {A : Type 0} (p : A → Bool) (xs : List A) → ((x : A) → p x ≡ false) → find p xs ≡ None
find_never p [] not = refl
find_never p (x ∷ xs) not = ap (λ b. if b then Some x else find p xs) (not x) ∙ find_never p xs not

map_none : {A : Type 0} {B : Type 0} (f : A → B) (o : Option A) → o ≡ None → option_map f o ≡ None
map_none f None none = refl
map_none f (Some x) none = cc

first_never : {A : Type 0} (at : ℕ → Option A) → ((n : ℕ) → at n ≡ None) → (from count : ℕ) → first_in at from count ≡ None
unfolding first_in
first_never at not from zero = refl
first_never at not from (suc count) = ap (λ o. option_or o (first_in at (from + 1) count)) (not from) ∙ first_never at not (from + 1) count

unseen_at : (access : Access) (address : ℕ) → seen_at [] access address ≡ None
unseen_at access address =
    let is_seen = is_seen_by [] access address in
    map_none _ (find is_seen watching) (find_never is_seen watching (λ kind. never (does access kind)))

unseen : (access : Access) → seen [] access ≡ None
unfolding seen
unseen access = first_never (seen_at [] access) (unseen_at access) access.first _

pub unseen_by : (access : Option Access) → option_and_then (seen []) access ≡ None
unseen_by None = refl
unseen_by (Some access) = unseen access

unwatched : (place h : ℕ) (access : Option Access) → watched [] place h access ≡ None
unwatched place h None = refl
unwatched place h (Some access) = map_none _ (seen [] access) (unseen access)

unbroken : (pc : ℕ) → breaks [] pc ≡ false
unfolding breaks
unbroken pc = refl

-- ---- at a step's place

-- where no point is set a hart alone stops the run
abbrev pub alone : Bool → ℕ → ℕ → Option Stop
alone steps place h = if steps then Some (stop_at place h Stands trap) else None

alone_here : (steps broken : Bool) (place h : ℕ) (o : Option Stop) → o ≡ None → broken ≡ false → option_or o (if broken || steps then Some (stop_at place h Stands trap) else None) ≡ alone steps place h
alone_here steps true place h o none not = cc
alone_here steps false place h None none not = refl
alone_here steps false place h (Some x) none not = cc

by_hart : (steps : Bool) (place h : ℕ) (s : State) (o : Option Hart) → IsSome o → option_and_then (λ (hart : Hart). option_or (watched [] (place + 1) h (next_access s h)) (if breaks [] hart.pc || steps then Some (stop_at place h Stands trap) else None)) o ≡ alone steps place h
by_hart steps place h s None there = cc
by_hart steps place h s (Some hart) there = alone_here steps (breaks [] hart.pc) place h _ (unwatched (place + 1) h (next_access s h)) (unbroken hart.pc)

by_state : (steps : Bool) (place h : ℕ) (o : Option State) → IsSome o → ((s : State) → o ≡ Some s → IsSome (slice_get s.harts h)) → option_and_then (taken_back [] steps place h) o ≡ alone steps place h
by_state steps place h None there has = cc
by_state steps place h (Some s) there has = by_hart steps place h s (slice_get s.harts h) (has s refl)

not_none : (o : Option (Event × State)) (x : Event × State) → o ≡ None → o ≡ Some x → ⊥
not_none o x none some = cc

is_there : {A : Type 0} (o : Option A) (x : A) → o ≡ Some x → IsSome o
is_there o x is = cc

-- who makes a step is there
has_hart : NoHartLaw → (s : State) (h : ℕ) (x : Event × State) → step_of s h ≡ Some x → IsSome (slice_get s.harts h)
has_hart law s h x step =
    elim (slice_get_cases s.harts h).1 [
      | inl there ↦ is_there (slice_get s.harts h) there.0 there.2
      | inr past ↦ absurd (not_none (step_of s h) x (law s h past.0) step)
    ]

stepped_same : (b : Bool) (k h : ℕ) → (if b then Some k else None) ≡ Some h → Some (Stepped k) ≡ Some (Stepped h)
stepped_same true k h is = cc
stepped_same false k h is = cc

entry_of : (among : List Bool) (o : Option Entry) (h : ℕ) → option_and_then (λ h. if is_one among h then Some h else None) (option_and_then stepped_hart o) ≡ Some h → o ≡ Some (Stepped h)
entry_of among None h is = cc
entry_of among (Some (Stepped k)) h is = stepped_same (is_one among k) k h is
entry_of among (Some (Paused k slot)) h is = cc
entry_of among (Some (Resumed k)) h is = cc
entry_of among (Some (Armed a)) h is = cc
entry_of among (Some (Disarmed a)) h is = cc

false_true : false ≡ true → ⊥
false_true is = cc

module _ (on : StepsLeadOn) (states : LegalHasStates) (law : NoHartLaw) (p : Placed) (legal : IsLegal (setting p) p.entries) (aims : Aims) (place : ℕ) where
  back_alone : (h : ℕ) → slice_get p.entries place ≡ Some (Stepped h) → back_stop p [] aims place h ≡ alone (is_one aims.stepping h) place h
  back_alone h there =
      by_state (is_one aims.stepping h) place h (state_at (setting p).start p.entries place)
      (states (setting p) p.entries legal place (let lt = slice_get_within p.entries place (Stepped h) there in omega (arith, lt)))
      (λ s at. let made = on (setting p) p.entries legal refl place h there s at in has_hart law s h (made.event, made.after) made.step)

  by_aim : (o : Option ℕ) → aimed_at p aims place ≡ o → option_and_then (back_stop p [] aims place) o ≡ option_and_then (λ h. alone (is_one aims.stepping h) place h) o
  unfolding stepped_at
  by_aim None is = refl
  by_aim (Some h) is = back_alone h (entry_of aims.among (slice_get p.entries place) h is)

  -- where no point is set the run stops at the step of a hart that is to make one
  pub step_back : option_and_then (λ h. alone (is_one aims.stepping h) place h) (aimed_at p aims place) ≡ stop_back p [] aims place
  unfolding stop_back
  step_back = sym (by_aim (aimed_at p aims place) refl)

-- who is one of some is counted
pub within : (harts : List Bool) (h : ℕ) → is_one harts h ≡ true → h < length harts
within harts h is =
    elim (slice_get_cases harts h).1 [
      | inl there ↦ there.1
      | inr past ↦ absurd (false_true (sym (ap (λ o. unwrap_or o false) past.1) ∙ is))
    ]

-- ---- a stretch of one place

or_none : {A : Type 0} (o : Option A) → option_or o None ≡ o
or_none None = refl
or_none (Some x) = refl

pub of_one : {A : Type 0} (at : ℕ → Option A) (place end : ℕ) → end ≡ place + 1 → last_in at place (end - place) ≡ at place
of_one at place end is =
    let one : end - place ≡ 1 = omega (arith, is) in
    let here : place + 0 ≡ place = omega arith in
    ap (last_in at place) one ∙ ap (λ k. option_or (at k) None) here ∙ or_none (at place)
