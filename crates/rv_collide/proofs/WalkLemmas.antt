-- A machine alone that goes through a legal schedule.
use Rattle.std.proofs.Common.{◌≡◌, ℕ, zero, suc, ◌+◌, ◌≤◌, List, [], ◌∷◌, ◌++◌, length, take, Option, Some, None, Ok, refl, sym, ap, subst, ◌∙◌, arith, length-append, add-one}
use Rattle.std.specs.Prelude.{slice_get, option_and_then}
use Rattle.std.proofs.lemmas.Option.{slice_get_within}
use Rattle.rv_collide.specs.Entries.{stepped_at, stepped_hart, steps}
use Rattle.rv_collide.specs.Forced.{Setting, forced}
use Rattle.rv_collide.specs.Legal.{IsLegal, call_of}
use Rattle.rv_collide.specs.Made.{made}
use Rattle.rv_collide.specs.Next.{next}
use Rattle.rv_collide.specs.StateAt.{state_at}
use Rattle.rv_collide.specs.WalkLaws.{OthersStay, StepsLeadOn, StepsPrintFew}
use Rattle.rv_collide.specs.declared.entry.Entry.{Entry}
use Rattle.rv_collide.specs.declared.entry.Entry.TheVariants.{Stepped, Paused, Resumed, Armed, Disarmed}
use Rattle.rv_hart.specs.NextAccess.{accessed}
use Rattle.rv_hart.specs.ReservationLaws.{StepsOfRunningHarts}
use Rattle.rv_hart.specs.State.{State}
use Rattle.rv_hart.specs.Step.{step_of}
use Rattle.rv_hart.specs.StepLaws.{OutputLaw}
use Rattle.rv_hart.specs.declared.access.Event.{Event}
use Rattle.rv_collide.proofs.Growth.{grown, turn_parts}
use Rattle.rv_collide.proofs.LawLemmas.{StepTo, runs_in, some_same, step_to, take_next}
use Rattle.rv_collide.proofs.Prefix.{state_quiet, state_step, steps_quiet, steps_step}
use Rattle.rv_collide.proofs.ToldLemmas.{next_event, state_here}

-- the first entries, and the one at the place
take_one : (xs : List Entry) (place : ℕ) (e : Entry) → slice_get xs place ≡ Some e → take (place + 1) xs ≡ take place xs ++ e ∷ []
take_one xs place e there =
    let n = take_next xs place (slice_get_within xs place e there) in
    n.2 ∙ ap (λ (x : Entry). take place xs ++ x ∷ []) (some_same n.0 e (sym n.1 ∙ there))

-- ---- entries that are no steps

stays : (start : State) (xs : List Entry) (place : ℕ) (e : Entry) → slice_get xs place ≡ Some e → stepped_hart e ≡ None → state_at start xs (place + 1) ≡ state_at start xs place
stays start xs place e there none =
    sym (state_here start xs (place + 1))
    ∙ ap (λ (ys : List Entry). state_at start ys (length ys)) (take_one xs place e there)
    ∙ state_quiet start (take place xs) e none
    ∙ state_here start xs place

makes_none : (start : State) (xs : List Entry) (place : ℕ) (e : Entry) → slice_get xs place ≡ Some e → stepped_hart e ≡ None → made start xs place ≡ None
unfolding made stepped_at
makes_none start xs place e there none =
    ap (λ (o : Option Entry). option_and_then (λ hart. next start xs place hart) (option_and_then stepped_hart o)) there
    ∙ ap (option_and_then (λ hart. next start xs place hart)) none

pub others : OthersStay
others setting xs place e there none = record {
  reached = stays setting.start xs place e there none;
  access = makes_none setting.start xs place e there none;
}

-- ---- steps

-- the state of the first entries is the one at the place
at_end : (start s : State) (xs : List Entry) (place : ℕ) → state_at start xs place ≡ Some s → state_at start (take place xs) (length (take place xs)) ≡ Some s
at_end start s xs place at = state_here start xs place ∙ at

steps_to : StepsOfRunningHarts → (setting : Setting) (xs : List Entry) (place h : ℕ) (s : State) → state_at setting.start xs place ≡ Some s → forced setting (take place xs) (call_of (Stepped h)) ≡ Ok (Stepped h) → StepTo s h
steps_to steps_of setting xs place h s at ok =
    let parts = turn_parts setting (take place xs) h (Stepped h) ok in
    let runs = runs_in setting.start s (take place xs) (length (take place xs)) h (at_end setting.start s xs place at) parts.runs in
    step_to s h (step_of s h) refl (steps_of s h ∙ runs)

reaches : (start : State) (xs : List Entry) (place h : ℕ) (s t : State) (event : Event) → slice_get xs place ≡ Some (Stepped h) → state_at start xs place ≡ Some s → step_of s h ≡ Some (event, t) → state_at start xs (place + 1) ≡ Some t
reaches start xs place h s t event there at step =
    sym (state_here start xs (place + 1))
    ∙ ap (λ (ys : List Entry). state_at start ys (length ys)) (take_one xs place (Stepped h) there)
    ∙ state_step start s t (take place xs) h event (at_end start s xs place at) step

makes : (start : State) (xs : List Entry) (place h : ℕ) (s t : State) (event : Event) → slice_get xs place ≡ Some (Stepped h) → state_at start xs place ≡ Some s → step_of s h ≡ Some (event, t) → accessed event ≡ made start xs place
unfolding made stepped_at
makes start xs place h s t event there at step =
    next_event start xs place h s t event at step
    ∙ sym (ap (λ (o : Option Entry). option_and_then (λ hart. next start xs place hart) (option_and_then stepped_hart o)) there)

-- ---- the bytes printed

record Prints (setting : Setting) (xs : List Entry) (place : ℕ) : Type 0 where
  pub state : State
  pub at : state_at setting.start xs place ≡ Some state
  pub few : length state.output ≤ length (steps (take place xs))

one_more : StepsOfRunningHarts → OutputLaw → (setting : Setting) (xs : List Entry) (place : ℕ) (e : Entry) → slice_get xs place ≡ Some e → forced setting (take place xs) (call_of e) ≡ Ok e → Prints setting xs place → Prints setting xs (place + 1)
one_more steps_of law setting xs place (Paused h slot) there ok p = record {
  state = p.state;
  at = stays setting.start xs place (Paused h slot) there refl ∙ p.at;
  few = subst (λ (ys : List ℕ). length p.state.output ≤ length ys) (sym (ap steps (take_one xs place (Paused h slot) there) ∙ steps_quiet (take place xs) (Paused h slot) refl)) p.few;
}
one_more steps_of law setting xs place (Resumed h) there ok p = record {
  state = p.state;
  at = stays setting.start xs place (Resumed h) there refl ∙ p.at;
  few = subst (λ (ys : List ℕ). length p.state.output ≤ length ys) (sym (ap steps (take_one xs place (Resumed h) there) ∙ steps_quiet (take place xs) (Resumed h) refl)) p.few;
}
one_more steps_of law setting xs place (Armed a) there ok p = record {
  state = p.state;
  at = stays setting.start xs place (Armed a) there refl ∙ p.at;
  few = subst (λ (ys : List ℕ). length p.state.output ≤ length ys) (sym (ap steps (take_one xs place (Armed a) there) ∙ steps_quiet (take place xs) (Armed a) refl)) p.few;
}
one_more steps_of law setting xs place (Disarmed a) there ok p = record {
  state = p.state;
  at = stays setting.start xs place (Disarmed a) there refl ∙ p.at;
  few = subst (λ (ys : List ℕ). length p.state.output ≤ length ys) (sym (ap steps (take_one xs place (Disarmed a) there) ∙ steps_quiet (take place xs) (Disarmed a) refl)) p.few;
}
one_more steps_of law setting xs place (Stepped h) there ok p =
    let t = steps_to steps_of setting xs place h p.state p.at ok in
    let is = ap length (ap steps (take_one xs place (Stepped h) there) ∙ steps_step (take place xs) h) ∙ length-append (steps (take place xs)) (h ∷ []) in
    let g = grown law p.state t.after h t.event (length (steps (take place xs))) t.is p.few in
    record {
      state = t.after;
      at = reaches setting.start xs place h p.state t.after t.event there p.at t.is;
      few = omega (arith, is, g);
    }

none_printed : (setting : Setting) (xs : List Entry) → setting.start.output ≡ [] → Prints setting xs 0
unfolding state_at steps
none_printed setting xs silent = record { state = setting.start; at = refl; few = (let n = ap length silent in omega (arith, n)) }

prints : StepsOfRunningHarts → OutputLaw → (setting : Setting) (xs : List Entry) → IsLegal setting xs → setting.start.output ≡ [] → (place : ℕ) → place ≤ length xs → Prints setting xs place
prints steps_of law setting xs legal silent zero below = none_printed setting xs silent
prints steps_of law setting xs legal silent (suc place) below =
    let n = take_next xs place (omega arith) in
    subst (Prints setting xs) (add-one place)
    (one_more steps_of law setting xs place n.0 n.1 (legal place n.0 n.1) (prints steps_of law setting xs legal silent place (omega arith)))

printed : StepsOfRunningHarts → OutputLaw → (setting : Setting) (xs : List Entry) → IsLegal setting xs → setting.start.output ≡ [] → (place : ℕ) → place ≤ length xs → (s : State) → state_at setting.start xs place ≡ Some s → length s.output ≤ length (steps (take place xs))
printed steps_of law setting xs legal silent place below s at =
    let p = prints steps_of law setting xs legal silent place below in
    subst (λ (t : State). length t.output ≤ length (steps (take place xs))) (some_same p.state s (sym p.at ∙ at)) p.few

-- ---- the laws

pub lead_on : StepsOfRunningHarts → OutputLaw → StepsLeadOn
lead_on steps_of law setting xs legal silent place h there s at =
    let ok = legal place (Stepped h) there in
    let below = slice_get_within xs place (Stepped h) there in
    let t = steps_to steps_of setting xs place h s at ok in
    let parts = turn_parts setting (take place xs) h (Stepped h) ok in
    let left = parts.left in
    let few = printed steps_of law setting xs legal silent place (omega arith) s at in
    record {
      event = t.event;
      after = t.after;
      step = t.is;
      reached = reaches setting.start xs place h s t.after t.event there at t.is;
      access = makes setting.start xs place h s t.after t.event there at t.is;
      room = omega (arith, left, few);
    }

-- the steps of a legal list are no more than the plan allows
few_steps : (setting : Setting) (xs : List Entry) → IsLegal setting xs → (place : ℕ) → place ≤ length xs → length (steps (take place xs)) ≤ setting.plan.steps
unfolding steps
few_steps setting xs legal zero below = omega arith
few_steps setting xs legal (suc place) below =
    let n = take_next xs place (omega arith) in
    subst (λ (k : ℕ). length (steps (take k xs)) ≤ setting.plan.steps) (add-one place)
    (few_more setting xs place n.0 n.1 (legal place n.0 n.1) (few_steps setting xs legal place (omega arith)))
  where
    quiet : (setting : Setting) (xs : List Entry) (place : ℕ) (e : Entry) → slice_get xs place ≡ Some e → stepped_hart e ≡ None → length (steps (take place xs)) ≤ setting.plan.steps → length (steps (take (place + 1) xs)) ≤ setting.plan.steps
    quiet setting xs place e there none few =
        subst (λ (ys : List ℕ). length ys ≤ setting.plan.steps) (sym (ap steps (take_one xs place e there) ∙ steps_quiet (take place xs) e none)) few

    few_more : (setting : Setting) (xs : List Entry) (place : ℕ) (e : Entry) → slice_get xs place ≡ Some e → forced setting (take place xs) (call_of e) ≡ Ok e → length (steps (take place xs)) ≤ setting.plan.steps → length (steps (take (place + 1) xs)) ≤ setting.plan.steps
    few_more setting xs place (Paused h slot) there ok few = quiet setting xs place (Paused h slot) there refl few
    few_more setting xs place (Resumed h) there ok few = quiet setting xs place (Resumed h) there refl few
    few_more setting xs place (Armed a) there ok few = quiet setting xs place (Armed a) there refl few
    few_more setting xs place (Disarmed a) there ok few = quiet setting xs place (Disarmed a) there refl few
    few_more setting xs place (Stepped h) there ok few =
        let parts = turn_parts setting (take place xs) h (Stepped h) ok in
        let left = parts.left in
        let is = ap length (ap steps (take_one xs place (Stepped h) there) ∙ steps_step (take place xs) h) ∙ length-append (steps (take place xs)) (h ∷ []) in
        omega (arith, left, is)

pub print_few : StepsOfRunningHarts → OutputLaw → StepsPrintFew
print_few steps_of law setting xs legal silent place below s at =
    let a = printed steps_of law setting xs legal silent place below s at in
    let b = few_steps setting xs legal place below in
    omega (arith, a, b)
