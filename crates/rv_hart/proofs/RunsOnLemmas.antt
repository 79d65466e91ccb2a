-- Which steps end their hart, and which do not.
use Rattle.std.proofs.Common.{◌≡◌, ℕ, true, Option, refl, sym, ap, ◌∙◌}
use Rattle.std.specs.Prelude.{is_some, slice_get}
use Rattle.rv_hart.specs.Refusals.{is_running_hart}
use Rattle.rv_hart.specs.State.{State, is_running}
use Rattle.rv_hart.specs.Step.{action_at, event_of, hart_after, loaded_by}
use Rattle.rv_hart.specs.StepLaws.{MovesRunOn}
use Rattle.rv_hart.specs.declared.access.Access.{Access}
use Rattle.rv_hart.specs.declared.access.Event.TheVariants.{Moved}
use Rattle.rv_hart.specs.declared.action.Action.{Action}
use Rattle.rv_hart.specs.declared.action.Action.TheVariants.{Trap, Set, Load, Store, Reserve, Conditional, Replace, Print, Exit}
use Rattle.rv_hart.specs.declared.hart.Hart.{Hart}
use Rattle.rv_hart.proofs.LawLemmas.{get_map, get_set_same, was}
use Rattle.rv_hart.proofs.ReservationLemmas.{steps_of_running_harts}

status_stays : (loaded : ℕ) (hart : Hart) (action : Action) (access : Option Access) → Moved access ≡ event_of hart action → (hart_after loaded hart action).status ≡ hart.status
status_stays loaded hart (Trap cause) access moved = cc
status_stays loaded hart (Exit code) access moved = cc
status_stays loaded hart (Set rd value next) access moved = refl
status_stays loaded hart (Load rd address size signed) access moved = refl
status_stays loaded hart (Store address size value) access moved = refl
status_stays loaded hart (Reserve rd address) access moved = refl
status_stays loaded hart (Conditional rd address value) access moved = refl
status_stays loaded hart (Replace rd address combine value) access moved = refl
status_stays loaded hart (Print byte) access moved = refl

pub moves_run_on : MovesRunOn
moves_run_on s t h access step =
    let w = was s t h (Moved access) step in
    let hart : Hart = w.0 in
    let action : Action = action_at s.memory hart in
    let there = ap (λ (u : State). slice_get u.harts h) w.1.after ∙ get_set_same _ h _ _ (get_map s.harts _ h hart w.1.there) in
    let runs : is_running hart.status ≡ true = ap is_running_hart (sym w.1.there) ∙ sym (steps_of_running_harts s h) ∙ ap is_some step in
    ap is_running_hart there ∙ ap is_running (status_stays (loaded_by s.memory action) hart action access w.1.event) ∙ runs
