-- What a step prints, and by whom none is made.
use Rattle.std.proofs.Common.{◌≡◌, ℕ, ◌≤◌, Bool, true, false, Option, Some, None, List, ◌++◌, length, ap, refl, subst, arith}
use Rattle.std.specs.Prelude.{IsTrue, slice_get, unwrap_or, if◌then◌else◌, not}
use Rattle.std.proofs.lemmas.Option.{slice_get_past}
use Rattle.rv_hart.specs.Refusals.{IsIdle, is_running_hart}
use Rattle.rv_hart.specs.State.{State, is_running}
use Rattle.rv_hart.specs.Step.{action_at, printed, state_after, step_by, step_of, step_of_hart}
use Rattle.rv_hart.specs.declared.access.Event.{Event}
use Rattle.rv_hart.specs.declared.action.Action.{Action}
use Rattle.rv_hart.specs.declared.action.Action.TheVariants.{Trap, Set, Load, Store, Reserve, Conditional, Replace, Print, Exit}
use Rattle.rv_hart.specs.declared.hart.Hart.{Hart}

abbrev Grows : State → State → Type 0
Grows s t = (bytes : List ℕ) × (length bytes ≤ 1) × (t.output ≡ s.output ++ bytes)

prints_one : (action : Action) → length (printed action) ≤ 1
prints_one (Print byte) = omega arith
prints_one (Trap cause) = omega arith
prints_one (Set rd value next) = omega arith
prints_one (Load rd address size signed) = omega arith
prints_one (Store address size value) = omega arith
prints_one (Reserve rd address) = omega arith
prints_one (Conditional rd address value) = omega arith
prints_one (Replace rd address combine value) = omega arith
prints_one (Exit code) = omega arith

ran_grows : (s t : State) (h : ℕ) (hart : Hart) (action : Action) (event : Event) (b : Bool) → (if b then Some (step_by s h hart action) else None) ≡ Some (event, t) → Grows s t
ran_grows s t h hart action event false e = cc
ran_grows s t h hart action event true e =
    let same : state_after s h hart action ≡ t = ap (λ o. (unwrap_or {T = Event × State} o (event, t)).1) e in
    subst (λ (u : State). Grows s u) same (printed action, prints_one action, refl)

hart_grows : (s : State) (h : ℕ) (o : Option Hart) (event : Event) (t : State) → step_of_hart s h o ≡ Some (event, t) → Grows s t
hart_grows s h None event t e = cc
hart_grows s h (Some hart) event t e = ran_grows s t h hart (action_at s.memory hart) event (is_running hart.status) e

pub output_grows : (s t : State) (h : ℕ) (event : Event) → step_of s h ≡ Some (event, t) → Grows s t
unfolding step_of
output_grows s t h event e = hart_grows s h (slice_get s.harts h) event t e

idle_status : (s : State) (h : ℕ) (hart : Hart) (b : Bool) → IsTrue (not b) → (if b then Some (step_by s h hart (action_at s.memory hart)) else None) ≡ None
idle_status s h hart false idle = refl
idle_status s h hart true idle = cc

idle_hart : (s : State) (h : ℕ) (o : Option Hart) → IsTrue (not (is_running_hart o)) → step_of_hart s h o ≡ None
idle_hart s h None idle = refl
idle_hart s h (Some hart) idle = idle_status s h hart (is_running hart.status) idle

pub no_hart_step : (s : State) (h : ℕ) → length s.harts ≤ h → step_of s h ≡ None
unfolding step_of
no_hart_step s h past = rw (slice_get_past s.harts h past) refl

pub idle_step : (s : State) (h : ℕ) → IsIdle s h → step_of s h ≡ None
unfolding step_of
idle_step s h idle = idle_hart s h (slice_get s.harts h) idle.idle
