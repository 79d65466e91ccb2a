-- A machine alone that goes through a legal schedule, and machines that stand at places of it.
use Rattle.std.proofs.Common.{◌≡◌, ℕ, ◌+◌, ◌*◌, ◌≤◌, ◌<◌, true, List, [], ◌∷◌, ◌++◌, length, take, Option, Some, None, Result, Ok, Err, zero, suc, inl, inr, refl, sym, ap, subst, ◌∙◌, arith, length-append}
use Rattle.std.specs.Prelude.{◌⊎◌, IfOk, nat_le, slice_get}
use Rattle.std.proofs.lemmas.Bool.{cases_lt}
use Rattle.std.proofs.lemmas.Bool.Decides.{nat_tests}
use Rattle.std.proofs.lemmas.List.{length-take, take_all}
use Rattle.std.proofs.lemmas.Option.{slice_get_within}
use Rattle.std.proofs.Math.Seq.{take-length}
use Rattle.rv_collide.specs.Entries.{steps, stepped_hart}
use Rattle.rv_collide.specs.Legal.{IsLegal}
use Rattle.rv_collide.specs.Made.{made}
use Rattle.rv_collide.specs.Plan.{Numbers}
use Rattle.rv_collide.specs.StateAt.{state_at}
use Rattle.rv_collide.specs.Stored.{Stored, setting_of, stored}
use Rattle.rv_collide.specs.WalkLaws.{OthersStay, StepsLeadOn, StepsOn, StepsPrintFew}
use Rattle.rv_collide.specs.declared.entry.Entry.{Entry}
use Rattle.rv_collide.specs.declared.entry.Entry.TheVariants.{Stepped, Paused, Resumed, Armed, Disarmed}
use Rattle.rv_elf.specs.Contents.{Contents}
use Rattle.rv_hart.specs.NextAccess.{accessed}
use Rattle.rv_hart.specs.Run.{run}
use Rattle.rv_hart.specs.State.{Guest, State}
use Rattle.rv_hart.specs.Step.{step_of}
use Rattle.rv_hart.specs.StepAnswer.{AnswersStep}
use Rattle.rv_hart.specs.StepLaws.{IdleLaw, NoHartLaw}
use Rattle.rv_hart.specs.declared.access.Event.{Event}
use Rattle.rv_hart.specs.declared.machine.StepFault.{StepFault}
use Rattle.rv_hart.specs.declared.machine.StepFault.TheVariants.{NoHart, NotRunning, OutputFull, NoMemory}
use Rattle.rv_debug.specs.declared.checkpoints.TheConstants.{CHECKPOINT_ENTRIES}
use Rattle.rv_debug.specs.internal.Session.{HasOneMore, HasStateAt, HoldStates, StandsAt}

-- no more is printed than the plan allows steps
pub printed : StepsPrintFew → (schedule : Stored) (place : ℕ) (m : Guest) → IsLegal (setting_of schedule) schedule.entries → place ≤ length schedule.entries → HasStateAt schedule place m → length m.state.output ≤ schedule.plan.steps
printed few schedule place m legal within at = few (setting_of schedule) schedule.entries legal refl place within m.state at

-- ---- one entry

pair_same : (x y : Event × State) (o : Option (Event × State)) → o ≡ Some x → o ≡ Some y → x ≡ y
pair_same x y o one other = cc

some_pair : (a b : Event) (s t : State) (o : Option (Event × State)) → o ≡ Some (a, s) → o ≡ Some (b, t) → (a ≡ b) × (s ≡ t)
some_pair a b s t o one other =
    let p = pair_same (a, s) (b, t) o one other in
    (ap (λ (x : Event × State). x.0) p, ap (λ (x : Event × State). x.1) p)

not_none : (s : State) (o : Option (Event × State)) (x : Event × State) → o ≡ None → o ≡ Some x → ⊥
not_none s o x none some = cc

no_room : (limit output steps : ℕ) → limit ≡ steps → output < steps → nat_le limit output ≡ true → ⊥
no_room limit output steps is room full = grind (arith, nat_tests)

module _ (law : StepsLeadOn) (schedule : Stored) (legal : IsLegal (setting_of schedule) schedule.entries) (place h : ℕ) (there : slice_get schedule.entries place ≡ Some (Stepped h)) (m : Guest) (here : StandsAt schedule place m) where
  on : StepsOn (setting_of schedule) schedule.entries place h m.state
  on = law (setting_of schedule) schedule.entries legal refl place h there m.state here.state

  pub steps_on : (event : Event) (new : Guest) → step_of m.state h ≡ Some (event, new.state) → new.limit ≡ m.limit → StandsAt schedule (place + 1) new
  steps_on event new step limit =
      let same = some_pair on.event event on.after new.state (step_of m.state h) on.step step in
      record { state = on.reached ∙ ap Some same.1; limit = limit ∙ here.limit }

  pub accesses : (event : Event) (new : State) → step_of m.state h ≡ Some (event, new) → accessed event ≡ made (setting_of schedule).start schedule.entries place
  accesses event new step =
      let same = some_pair on.event event on.after new (step_of m.state h) on.step step in
      ap accessed (sym same.0) ∙ on.access

  pub only_memory : NoHartLaw → IdleLaw → (new : Guest) (fault : StepFault) (r : Result Event StepFault) → r ≡ Err fault → AnswersStep true m new h r → fault ≡ NoMemory
  only_memory hartless idle new NoHart r is answer = absurd (not_none m.state (step_of m.state h) (on.event, on.after) (hartless m.state h (answer.no_hart.0 is)) on.step)
  only_memory hartless idle new NotRunning r is answer = absurd (not_none m.state (step_of m.state h) (on.event, on.after) (idle m.state h (answer.not_running.0 is)) on.step)
  only_memory hartless idle new OutputFull r is answer =
      let full = answer.output_full.0 is in
      absurd (no_room m.limit (length m.state.output) schedule.plan.steps here.limit on.room full.full)
  only_memory hartless idle new NoMemory r is answer = refl

quiet : (e : Entry) → ((h : ℕ) → e ≡ Stepped h → ⊥) → stepped_hart e ≡ None
quiet (Stepped h) other = absurd (other h refl)
quiet (Paused h slot) other = refl
quiet (Resumed h) other = refl
quiet (Armed a) other = refl
quiet (Disarmed a) other = refl

pub stays : OthersStay → (schedule : Stored) (place : ℕ) (e : Entry) (m : Guest) → slice_get schedule.entries place ≡ Some e → ((h : ℕ) → e ≡ Stepped h → ⊥) → StandsAt schedule place m → StandsAt schedule (place + 1) m × (None ≡ made (setting_of schedule).start schedule.entries place)
stays law schedule place e m there other here =
    let still = law (setting_of schedule) schedule.entries place e there (quiet e other) in
    (record { state = still.reached ∙ here.state; limit = here.limit }, sym still.access)

-- ---- checkpoints

module _ (image : Contents) (plan : Numbers) (xs : List Entry) where
  pub told_here : (n : ℕ) (core : Stored) → core ≡ stored image plan (take n xs) → n ≤ length xs → core.entries ≡ take (length core.entries) xs
  told_here n core is within =
      let size : length core.entries ≡ n = ap (λ (s : Stored). length s.entries) is ∙ length-take n xs ∙ (omega arith) in
      ap (λ (s : Stored). s.entries) is ∙ ap (λ (k : ℕ). take k xs) (sym size)

  pub take_until : (until n : ℕ) → (until ≡ n) ⊎ ((until ≡ length xs) × (length xs ≤ n)) → take until xs ≡ take n xs
  take_until until n next =
      elim next [
        | inl is ↦ ap (λ (k : ℕ). take k xs) is
        | inr past ↦ take_all until xs (let is = past.0 in omega (arith, is)) ∙ sym (take_all n xs past.1)
      ]

  state_here : (start : State) (n : ℕ) → state_at start (take n xs) (length (take n xs)) ≡ state_at start xs n
  unfolding state_at
  state_here start n = ap (λ ys. run start (steps ys)) (take-length (take n xs))

  front : (ys zs : List Guest) (i : ℕ) → i < length ys → slice_get (ys ++ zs) i ≡ slice_get ys i
  front [] zs i below = absurd (omega arith)
  front (y ∷ ys) zs zero below = refl
  front (y ∷ ys) zs (suc i) below = front ys zs i (omega arith)

  last : (ys : List Guest) (y : Guest) → slice_get (ys ++ y ∷ []) (length ys) ≡ Some y
  last [] y = refl
  last (x ∷ ys) y = last ys y

  some_same : (x y : Guest) (o : Option Guest) → o ≡ Some x → o ≡ Some y → x ≡ y
  some_same x y o one other = cc

  added_state : (n : ℕ) (core : Stored) (m : Guest) → core ≡ stored image plan (take n xs) → HasStateAt core (length core.entries) m → HasStateAt (stored image plan xs) n m
  added_state n core m is at =
      sym (state_here (setting_of (stored image plan xs)).start n)
      ∙ subst (λ (s : Stored). state_at (setting_of s).start s.entries (length s.entries) ≡ Some m.state) is at

  pub no_checkpoints : (made : List Guest) → made ≡ [] → HoldStates (stored image plan xs) 0 made
  no_checkpoints made none = record {
    count_is = ap length none;
    each = λ c m there. absurd (nothing c m (sym (ap (λ (ys : List Guest). slice_get ys c) none) ∙ there));
  }
    where
      nothing : (i : ℕ) (m : Guest) → slice_get [] i ≡ Some m → ⊥
      nothing i m h = cc

  pub one_checkpoint_more : (n : ℕ) (core : Stored) (old new : List Guest) → core ≡ stored image plan (take (CHECKPOINT_ENTRIES * n) xs) → HoldStates (stored image plan xs) n old → HasOneMore core old new → HoldStates (stored image plan xs) (n + 1) new
  one_checkpoint_more n core old new is held more =
      subst (λ (ys : List Guest). HoldStates (stored image plan xs) (n + 1) ys) (sym more.added) (record {
        count_is = (let count = held.count_is in omega (arith, count, length-append old (more.checkpoint ∷ [])));
        each = λ c m there. elim (cases_lt c (length old)) [
          | inl lt ↦ held.each c m (sym (front old (more.checkpoint ∷ []) c lt) ∙ there)
          | inr ge ↦ (let within = slice_get_within (old ++ more.checkpoint ∷ []) c m there in
              let long = length-append old (more.checkpoint ∷ []) in
              let here : c ≡ length old = omega arith in
              let count = held.count_is in
              let number : n ≡ c = omega arith in
              let same : more.checkpoint ≡ m = some_same more.checkpoint m (slice_get (old ++ more.checkpoint ∷ []) (length old)) (last old more.checkpoint) (sym (ap (slice_get (old ++ more.checkpoint ∷ [])) here) ∙ there) in
              subst (λ (g : Guest). HasStateAt (stored image plan xs) (CHECKPOINT_ENTRIES * c) g) same
              (subst (λ (k : ℕ). HasStateAt (stored image plan xs) (CHECKPOINT_ENTRIES * k) more.checkpoint) number
              (added_state (CHECKPOINT_ENTRIES * n) core more.checkpoint is more.state)))
        ];
      })

pub shared : {E : Type 0} (schedule : Stored) (place : ℕ) (m : Guest) (r : Result Guest E) → HasStateAt schedule place m → IfOk r (λ copy. copy ≡ record { state = m.state; limit = schedule.plan.steps }) → IfOk r (λ copy. StandsAt schedule place copy)
shared schedule place m (Ok copy) at is = subst (StandsAt schedule place) (sym is) (record { state = at; limit = refl })
shared schedule place m (Err e) at is = tt
