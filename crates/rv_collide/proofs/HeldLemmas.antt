-- A reservation is held just where the history says so.
use Rattle.std.proofs.Common.{◌≡◌, ◌≢◌, ℕ, zero, suc, ◌+◌, ◌<◌, ◌⊎◌, inl, inr, true, false, cond, List, [], ◌∷◌, ◌++◌, length, take, Option, Some, None, map, refl, sym, ap, subst, ◌∙◌, arith, add-one}
use Rattle.std.specs.Prelude.{slice_get, option_and_then, ◌↔◌}
use Rattle.std.specs.List.{range_with_len}
use Rattle.std.specs.Option.{option_map_or}
use Rattle.std.proofs.lemmas.Bool.{cases_eq}
use Rattle.rv_collide.specs.Entries.{stepped_hart, stepped_at, steps}
use Rattle.rv_collide.specs.Held.{Held, action, is_lr_or_sc, reserved_by}
use Rattle.rv_collide.specs.Laws.{ReservationsAreHeld}
use Rattle.rv_collide.specs.Made.{made}
use Rattle.rv_collide.specs.Next.{next}
use Rattle.rv_collide.specs.StateAt.{state_at}
use Rattle.rv_collide.specs.declared.entry.Entry.{Entry}
use Rattle.rv_collide.specs.declared.entry.Entry.TheVariants.{Stepped, Paused, Resumed, Armed, Disarmed}
use Rattle.rv_hart.specs.NextAccess.{accessed}
use Rattle.rv_hart.specs.ReservationLaws.{reservation_at, own_after, left_by, writes_word, OwnReservation, OthersReservations, NextIsMade}
use Rattle.rv_hart.specs.Run.{run}
use Rattle.rv_hart.specs.State.{State, start, first_hart}
use Rattle.rv_hart.specs.Step.{step_of, action_at}
use Rattle.rv_hart.specs.declared.access.Access.{Access}
use Rattle.rv_hart.specs.declared.access.Event.{Event}
use Rattle.rv_hart.specs.declared.action.Action.{Action}
use Rattle.rv_hart.specs.declared.action.Action.TheVariants.{Trap, Set, Load, Store, Reserve, Conditional, Replace, Print, Exit}
use Rattle.rv_hart.specs.declared.hart.Hart.{Hart}
use Rattle.rv_memory.specs.Extent.{Extent}
use Rattle.rv_collide.proofs.LawLemmas.{some_same, take_next}
use Rattle.rv_collide.proofs.Prefix.{run_append, steps_quiet, steps_step}

none_some : {A : Type 0} → {x : A} → None ≡ Some x → ⊥
none_some h = cc

-- ---- one more place

-- the state before a place and after it: the same, or a step apart
pub data Grows (s t : State) (entries : List Entry) (place : ℕ) : Type 0 where
  Same : stepped_at entries place ≡ None → s ≡ t → Grows s t entries place
  Step : (hart : ℕ) (event : Event) → stepped_at entries place ≡ Some hart → step_of s hart ≡ Some (event, t) → Grows s t entries place

pub record Before (start : State) (entries : List Entry) (place : ℕ) (t : State) : Type 0 where
  pub state : State
  pub reached : state_at start entries place ≡ Some state
  pub grows : Grows state t entries place

step_parts : (o : Option (Event × State)) (t : State) → option_and_then (λ (u : Event × State). Some u.1) o ≡ Some t → (event : Event) × (o ≡ Some (event, t))
step_parts None t h = cc
step_parts (Some (event, u)) t h = (event, ap (λ (v : State). Some (event, v)) (some_same u t h))

after_step : (start : State) (entries : List Entry) (place hart : ℕ) (t : State) (o : Option State) → state_at start entries place ≡ o → stepped_at entries place ≡ Some hart → option_and_then (λ (u : State). run u (hart ∷ [])) o ≡ Some t → Before start entries place t
after_step start entries place hart t None at own h = cc
after_step start entries place hart t (Some s) at own h =
    let p = step_parts (step_of s hart) t h in
    record { state = s; reached = at; grows = Step hart p.0 own p.1 }

stepped_is : (entries : List Entry) (place : ℕ) (e : Entry) → slice_get entries place ≡ Some e → stepped_at entries place ≡ stepped_hart e
unfolding stepped_at
stepped_is entries place e there = ap (option_and_then stepped_hart) there

quiet_before : (start : State) (entries : List Entry) (place : ℕ) (t : State) (e : Entry) → slice_get entries place ≡ Some e → stepped_hart e ≡ None → run start (steps (take place entries ++ e ∷ [])) ≡ Some t → Before start entries place t
unfolding state_at
quiet_before start entries place t e there none at =
    record { state = t; reached = sym (ap (run start) (steps_quiet (take place entries) e none)) ∙ at; grows = Same (stepped_is entries place e there ∙ none) refl }

one_before : (start : State) (entries : List Entry) (place : ℕ) (t : State) (e : Entry) → slice_get entries place ≡ Some e → run start (steps (take place entries ++ e ∷ [])) ≡ Some t → Before start entries place t
unfolding state_at
one_before start entries place t (Stepped hart) there at =
    after_step start entries place hart t (state_at start entries place) refl (stepped_is entries place (Stepped hart) there)
    (sym (ap (run start) (steps_step (take place entries) hart) ∙ run_append start (steps (take place entries)) (hart ∷ [])) ∙ at)
one_before start entries place t (Paused hart slot) there at = quiet_before start entries place t (Paused hart slot) there refl at
one_before start entries place t (Resumed hart) there at = quiet_before start entries place t (Resumed hart) there refl at
one_before start entries place t (Armed address) there at = quiet_before start entries place t (Armed address) there refl at
one_before start entries place t (Disarmed address) there at = quiet_before start entries place t (Disarmed address) there refl at

pub before : (start : State) (entries : List Entry) (place : ℕ) (t : State) → place < length entries → state_at start entries (place + 1) ≡ Some t → Before start entries place t
unfolding state_at
before start entries place t below at =
    let n = take_next entries place below in
    one_before start entries place t n.0 n.1 (sym (ap (λ (ys : List Entry). run start (steps ys)) n.2) ∙ at)

-- ---- what a hart did and accessed

record Did (start s t : State) (entries : List Entry) (place hart : ℕ) (event : Event) : Type 0 where
  pub it : Hart
  pub there : slice_get s.harts hart ≡ Some it
  pub is : action start entries place hart ≡ Some (action_at s.memory it)
  pub after : reservation_at t hart ≡ own_after (action_at s.memory it) it.reservation

no_hart : (s t : State) (hart : ℕ) (event : Event) → slice_get s.harts hart ≡ None → step_of s hart ≡ Some (event, t) → ⊥
unfolding step_of
no_hart s t hart event none step = none_some (sym (rw none refl) ∙ step)

did_of : OwnReservation → (start s t : State) (entries : List Entry) (place hart : ℕ) (event : Event) (o : Option Hart) → slice_get s.harts hart ≡ o → state_at start entries place ≡ Some s → step_of s hart ≡ Some (event, t) → Did start s t entries place hart event
unfolding action
did_of own start s t entries place hart event None there at step = absurd (no_hart s t hart event there step)
did_of own start s t entries place hart event (Some it) there at step = record { it = it; there = there; is = rw (at, there) refl; after = own s t hart event it step there }

pub made_is : NextIsMade → (start s t : State) (entries : List Entry) (place hart : ℕ) (event : Event) → state_at start entries place ≡ Some s → stepped_at entries place ≡ Some hart → step_of s hart ≡ Some (event, t) → made start entries place ≡ accessed event
unfolding made next
made_is next_is start s t entries place hart event at own step = rw (own, at) (next_is s t hart event step)

-- ---- held one place longer

two_harts : {a b : ℕ} → Some a ≡ Some b → a ≡ b
two_harts h = cc

below : (a n : ℕ) → a < n + 1 → (a ≡ n → ⊥) → a < n
below a n lt other = omega arith

in_last : (a n : ℕ) → a < n + 1 → (a < n) ⊎ (a ≡ n)
in_last a n lt = elim (cases_eq a n) [ inl same ↦ inr same | inr other ↦ inl (below a n lt other) ]

longer : (start : State) (entries : List Entry) (place hart address : ℕ) → (stepped_at entries place ≡ Some hart → option_map_or is_lr_or_sc (action start entries place hart) false ≡ false) → ((other : ℕ) → other ≢ hart → stepped_at entries place ≡ Some other → writes_word (made start entries place) address ≡ false) → Held start entries place hart address → Held start entries (place + 1) hart address
longer start entries place hart address own others h =
    let before_place = h.before in
    record {
      at = h.at;
      before = omega arith;
      own = h.own;
      reserves = h.reserves;
      last = λ later lo hi is. elim (in_last later place hi) [
        | inl lt ↦ h.last later lo lt is
        | inr end ↦ ap (λ n. option_map_or is_lr_or_sc (action start entries n hart) false) end ∙ own (ap (stepped_at entries) (sym end) ∙ is)
      ];
      kept = λ later other lo hi ne is. elim (in_last later place hi) [
        | inl lt ↦ h.kept later other lo lt ne is
        | inr end ↦ ap (λ n. writes_word (made start entries n) address) end ∙ others other ne (ap (stepped_at entries) (sym end) ∙ is)
      ];
    }

shorter : (start : State) (entries : List Entry) (place hart address : ℕ) (h : Held start entries (place + 1) hart address) → h.at < place → Held start entries place hart address
shorter start entries place hart address h lt =
    record {
      at = h.at;
      before = lt;
      own = h.own;
      reserves = h.reserves;
      last = λ later lo hi is. h.last later lo (omega arith) is;
      kept = λ later other lo hi ne is. h.kept later other lo (omega arith) ne is;
    }

-- ---- one place, both ways

own_says : (act : Action) (held : Option ℕ) (address : ℕ) → own_after act held ≡ Some address → (reserved_by act ≡ Some address) ⊎ ((is_lr_or_sc act ≡ false) × (held ≡ Some address))
own_says (Reserve rd word) held address h = inl h
own_says (Conditional rd word value) held address h = cc
own_says (Replace rd word combine value) held address h = inr (refl, h)
own_says (Load rd word size signed) held address h = inr (refl, h)
own_says (Store word size value) held address h = inr (refl, h)
own_says (Set rd value next) held address h = inr (refl, h)
own_says (Trap cause) held address h = inr (refl, h)
own_says (Print byte) held address h = inr (refl, h)
own_says (Exit code) held address h = inr (refl, h)

own_reserves : (act : Action) (held : Option ℕ) (address : ℕ) → reserved_by act ≡ Some address → own_after act held ≡ Some address
own_reserves (Reserve rd word) held address h = h
own_reserves (Conditional rd word value) held address h = cc
own_reserves (Replace rd word combine value) held address h = cc
own_reserves (Load rd word size signed) held address h = cc
own_reserves (Store word size value) held address h = cc
own_reserves (Set rd value next) held address h = cc
own_reserves (Trap cause) held address h = cc
own_reserves (Print byte) held address h = cc
own_reserves (Exit code) held address h = cc

own_keeps : (act : Action) (held : Option ℕ) → is_lr_or_sc act ≡ false → own_after act held ≡ held
own_keeps (Reserve rd word) held h = cc
own_keeps (Conditional rd word value) held h = cc
own_keeps (Replace rd word combine value) held h = refl
own_keeps (Load rd word size signed) held h = refl
own_keeps (Store word size value) held h = refl
own_keeps (Set rd value next) held h = refl
own_keeps (Trap cause) held h = refl
own_keeps (Print byte) held h = refl
own_keeps (Exit code) held h = refl

left_says : (access : Option Access) (held : Option ℕ) (address : ℕ) → left_by access held ≡ Some address → (held ≡ Some address) × (writes_word access address ≡ false)
left_says access None address h = cc
left_says access (Some word) address h =
    elim (writes_word access word) as (λ b. writes_word access word ≡ b → cond b None (Some word) ≡ Some address → (Some word ≡ Some address) × (writes_word access address ≡ false)) [
      | true ↦ λ e g. cc
      | false ↦ λ e g. (g, ap (writes_word access) (sym (some_same word address g)) ∙ e)
    ] refl h

left_keeps : (access : Option Access) (held : Option ℕ) (address : ℕ) → held ≡ Some address → writes_word access address ≡ false → left_by access held ≡ Some address
left_keeps access held address is none = ap (left_by access) is ∙ ap (λ b. cond b None (Some address)) none

reservation_of : (s : State) (hart : ℕ) (it : Hart) → slice_get s.harts hart ≡ Some it → reservation_at s hart ≡ it.reservation
reservation_of s hart it there = ap (option_and_then (λ (h : Hart). h.reservation)) there

pub record Laws : Type 0 where
  pub own : OwnReservation
  pub others : OthersReservations
  pub made : NextIsMade

-- the statement at a place
abbrev Exact : State → List Entry → ℕ → State → Type 0
Exact start entries place s = (hart address : ℕ) → (reservation_at s hart ≡ Some address) ↔ Held start entries place hart address

exact_same : (start s t : State) (entries : List Entry) (place : ℕ) → stepped_at entries place ≡ None → s ≡ t → Exact start entries place s → Exact start entries (place + 1) t
exact_same start s t entries place none same ih hart address = (
  λ held. longer start entries place hart address (λ own. absurd (none_some (sym none ∙ own))) (λ other ne own. absurd (none_some (sym none ∙ own))) ((ih hart address).0 (ap (λ (u : State). reservation_at u hart) same ∙ held)),
  λ h. elim (in_last h.at place h.before) [
    | inl lt ↦ ap (λ (u : State). reservation_at u hart) (sym same) ∙ (ih hart address).1 (shorter start entries place hart address h lt)
    | inr end ↦ absurd (none_some (sym none ∙ ap (stepped_at entries) (sym end) ∙ h.own))
  ],
)

never_between : (place later : ℕ) → place < later → later < place + 1 → ⊥
never_between place later lo hi = absurd (omega arith)

exact_own : Laws → (start s t : State) (entries : List Entry) (place hart : ℕ) (event : Event) → state_at start entries place ≡ Some s → stepped_at entries place ≡ Some hart → step_of s hart ≡ Some (event, t) → Exact start entries place s → (address : ℕ) → (reservation_at t hart ≡ Some address) ↔ Held start entries (place + 1) hart address
exact_own laws start s t entries place hart event at own step ih address =
    let d = did_of laws.own start s t entries place hart event (slice_get s.harts hart) refl at step in
    let old = reservation_of s hart d.it d.there in (
      λ held. elim (own_says (action_at s.memory d.it) d.it.reservation address (sym d.after ∙ held)) [
        | inl reserves ↦ record {
          at = place;
          before = omega arith;
          own = own;
          reserves = ap (option_and_then reserved_by) d.is ∙ reserves;
          last = λ later lo hi is. absurd (never_between place later lo hi);
          kept = λ later other lo hi ne is. absurd (never_between place later lo hi);
        }
        | inr keeps ↦ longer start entries place hart address (λ is. ap (λ (a : Option Action). option_map_or is_lr_or_sc a false) d.is ∙ keeps.0) (λ other ne is. absurd (ne (two_harts (sym is ∙ own)))) ((ih hart address).0 (old ∙ keeps.1))
      ],
      λ h. elim (in_last h.at place h.before) [
        | inl lt ↦
            let plain = sym (ap (λ (a : Option Action). option_map_or is_lr_or_sc a false) d.is) ∙ h.last place lt (omega arith) own in
            d.after ∙ own_keeps (action_at s.memory d.it) d.it.reservation plain ∙ sym old ∙ (ih hart address).1 (shorter start entries place hart address h lt)
        | inr end ↦
            let reserves = sym (ap (option_and_then reserved_by) d.is) ∙ ap (λ n. option_and_then reserved_by (action start entries n hart)) (sym end) ∙ h.reserves in
            d.after ∙ own_reserves (action_at s.memory d.it) d.it.reservation address reserves
      ],
    )

exact_other : Laws → (start s t : State) (entries : List Entry) (place stepped hart : ℕ) (event : Event) → hart ≢ stepped → state_at start entries place ≡ Some s → stepped_at entries place ≡ Some stepped → step_of s stepped ≡ Some (event, t) → Exact start entries place s → (address : ℕ) → (reservation_at t hart ≡ Some address) ↔ Held start entries (place + 1) hart address
exact_other laws start s t entries place stepped hart event ne at own step ih address =
    let left = laws.others s t stepped hart event step ne in
    let made_now = made_is laws.made start s t entries place stepped event at own step in (
      λ held.
          let p = left_says (accessed event) (reservation_at s hart) address (sym left ∙ held) in
          longer start entries place hart address (λ is. absurd (ne (two_harts (sym is ∙ own)))) (λ other other_ne is. ap (λ (a : Option Access). writes_word a address) made_now ∙ p.1) ((ih hart address).0 p.0),
      λ h. elim (in_last h.at place h.before) [
        | inl lt ↦ left ∙ left_keeps (accessed event) (reservation_at s hart) address ((ih hart address).1 (shorter start entries place hart address h lt)) (sym (ap (λ (a : Option Access). writes_word a address) made_now) ∙ h.kept place stepped lt (omega arith) (λ e. ne (sym e)) own)
        | inr end ↦ absurd (ne (two_harts (sym h.own ∙ ap (stepped_at entries) end ∙ own)))
      ],
    )

exact_step : Laws → (start s t : State) (entries : List Entry) (place : ℕ) → state_at start entries place ≡ Some s → Grows s t entries place → Exact start entries place s → Exact start entries (place + 1) t
exact_step laws start s t entries place at (Same none same) ih = exact_same start s t entries place none same ih
exact_step laws start s t entries place at (Step stepped event own step) ih =
    λ hart address. elim (cases_eq hart stepped) [
      | inl same ↦ exact_own laws start s t entries place hart event at (own ∙ ap Some (sym same)) (ap (step_of s) same ∙ step) ih address
      | inr other ↦ exact_other laws start s t entries place stepped hart event other at own step ih address
    ]

none_first : (entry count : ℕ) (xs : List ℕ) (h : ℕ) → option_and_then (λ (k : Hart). k.reservation) (slice_get (map (first_hart entry count) xs) h) ≡ None
none_first entry count [] h = refl
none_first entry count (x ∷ xs) zero = refl
none_first entry count (x ∷ xs) (suc h) = none_first entry count xs h

not_below : (n : ℕ) → n < 0 → ⊥
not_below n lt = absurd (omega arith)

exact_start : (given : List Extent) (entry count : ℕ) (entries : List Entry) (s : State) → state_at (start given entry count) entries 0 ≡ Some s → Exact (start given entry count) entries 0 s
unfolding state_at steps
exact_start given entry count entries s at hart address =
    let same : start given entry count ≡ s = some_same (start given entry count) s at in (
      λ held. absurd (none_some (sym (none_first entry count (range_with_len 0 count) hart) ∙ ap (λ (u : State). reservation_at u hart) same ∙ held)),
      λ h. absurd (not_below h.at h.before),
    )

pub held : Laws → ReservationsAreHeld
held laws given entry count entries zero s below at = exact_start given entry count entries s at
held laws given entry count entries (suc place) s below at =
    let at_next : state_at (start given entry count) entries (place + 1) ≡ Some s = subst (λ (n : ℕ). state_at (start given entry count) entries n ≡ Some s) (sym (add-one place)) at in
    let b = before (start given entry count) entries place s (omega arith) at_next in
    subst (λ (n : ℕ). Exact (start given entry count) entries n s) (add-one place)
    (exact_step laws (start given entry count) b.state s entries place b.reached b.grows (held laws given entry count entries place b.state (omega arith) b.reached))
