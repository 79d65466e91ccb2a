-- From a stuck state no step changes anything, and it is stuck still.
use Rattle.std.proofs.Common.{◌≡◌, ℕ, zero, suc, ◌≤◌, inl, inr, Bool, false, Option, Some, None, List, [], ◌∷◌, map, set, refl, sym, ap, subst, ◌∙◌, arith}
use Rattle.std.specs.Prelude.{slice_get, option_and_then, option_map, is_some}
use Rattle.std.proofs.lemmas.Bool.{cases_eq}
use Rattle.std.proofs.lemmas.List.{map-set}
use Rattle.std.proofs.lemmas.Option.{slice_get-map}
use Rattle.rv_hart.specs.Locality.{LocalityLaw}
use Rattle.rv_hart.specs.Refusals.{is_running_hart}
use Rattle.rv_hart.specs.ReservationLaws.{StepsOfRunningHarts}
use Rattle.rv_hart.specs.Run.{run}
use Rattle.rv_hart.specs.State.{State, is_running}
use Rattle.rv_hart.specs.Step.{step_of, action_at, event_of, hart_after, loaded_by, written_by, seen_by, state_after}
use Rattle.rv_hart.specs.StepLaws.{OtherHartsStay}
use Rattle.rv_hart.specs.declared.access.Access.{Access}
use Rattle.rv_hart.specs.declared.access.Event.{Event}
use Rattle.rv_hart.specs.declared.access.Event.TheVariants.{Moved}
use Rattle.rv_hart.specs.declared.action.Action.{Action}
use Rattle.rv_hart.specs.declared.action.Action.TheVariants.{Trap, Set, Load, Store, Reserve, Conditional, Replace, Print, Exit}
use Rattle.rv_hart.specs.declared.hart.Hart.{Hart}
use Rattle.rv_hart.specs.declared.hart.Status.{Status}
use Rattle.rv_hart.specs.declared.write.Write.{Write}
use Rattle.rv_memory.specs.MemoryLaws.{StoreKeepsOtherBytes}
use Rattle.rv_waits.specs.Round.{IsQuietStep, StepsQuietly, IsWhereItWas, Waits}
use Rattle.rv_waits.specs.Stuck.{IsStuck, Runs}
use Rattle.rv_waits.specs.StuckLaw.{NothingChanged, StuckForEver, statuses}
use Rattle.rv_waits.proofs.RoundLemmas.{after_its_steps, round_alike, where_left}
use Rattle.rv_waits.proofs.StepLemmas.{same_step, step_is}

-- ---- statuses

status_stays : (loaded : ℕ) (hart : Hart) (action : Action) (access : Option Access) → Moved access ≡ event_of hart action → (hart_after loaded hart action).status ≡ hart.status
status_stays loaded hart (Trap cause) access moved = cc
status_stays loaded hart (Exit code) access moved = cc
status_stays loaded hart (Set rd value next) access moved = refl
status_stays loaded hart (Load rd address size signed) access moved = refl
status_stays loaded hart (Store address size value) access moved = refl
status_stays loaded hart (Reserve rd address) access moved = refl
status_stays loaded hart (Conditional rd address value) access moved = refl
status_stays loaded hart (Replace rd address combine value) access moved = refl
status_stays loaded hart (Print byte) access moved = refl

abbrev status_list : List Hart → List Status
status_list harts = map (λ (hart : Hart). hart.status) harts

seen_statuses : (w : Option Write) (harts : List Hart) → status_list (map (seen_by w) harts) ≡ status_list harts
seen_statuses w [] = refl
seen_statuses w (hart ∷ harts) = ap (λ (l : List Status). hart.status ∷ l) (seen_statuses w harts)

set_status : (harts : List Hart) (h : ℕ) (hart : Hart) → slice_get harts h ≡ Some hart → set (status_list harts) h hart.status ≡ status_list harts
set_status [] h hart there = refl
set_status (x ∷ xs) zero hart there = let same : x ≡ hart = cc in ap (λ (y : Hart). y.status ∷ status_list xs) (sym same)
set_status (x ∷ xs) (suc h) hart there = ap (λ (l : List Status). x.status ∷ l) (set_status xs h hart there)

-- a step that moves on changes no hart's status
moved_statuses : (s t : State) (h : ℕ) (access : Option Access) → step_of s h ≡ Some (Moved access, t) → statuses t ≡ statuses s
moved_statuses s t h access step =
    let w = step_is s t h (Moved access) step in
    let hart : Hart = w.0 in
    let action : Action = action_at s.memory hart in
    let loaded : ℕ = loaded_by s.memory action in
    let seen : List Hart = map (seen_by (written_by loaded hart action)) s.harts in
    let left : statuses (state_after s h hart action) ≡ set (status_list seen) h (hart_after loaded hart action).status = map-set (λ (x : Hart). x.status) seen h (hart_after loaded hart action) in
    let same : set (status_list seen) h (hart_after loaded hart action).status ≡ set (status_list s.harts) h hart.status =
    ap (λ (l : List Status). set l h (hart_after loaded hart action).status) (seen_statuses (written_by loaded hart action) s.harts) ∙ ap (λ (x : Status). set (status_list s.harts) h x) (status_stays loaded hart action access w.1.event) in
    ap statuses w.1.after ∙ left ∙ same ∙ set_status s.harts h hart w.1.there

abbrev runs_if : Option Status → Bool
runs_if None = false
runs_if (Some status) = is_running status

runs_as : (o : Option Hart) → is_running_hart o ≡ runs_if (option_map (λ (x : Hart). x.status) o)
runs_as None = refl
runs_as (Some hart) = refl

runs_by_status : (s : State) (h : ℕ) → is_running_hart (slice_get s.harts h) ≡ runs_if (slice_get (statuses s) h)
runs_by_status s h = runs_as (slice_get s.harts h) ∙ ap runs_if (sym (slice_get-map (λ (x : Hart). x.status) s.harts h))

-- whoever runs in the one runs in the other
same_running : (s t : State) (h : ℕ) → statuses t ≡ statuses s → is_running_hart (slice_get t.harts h) ≡ is_running_hart (slice_get s.harts h)
same_running s t h e = runs_by_status t h ∙ ap (λ (l : List Status). runs_if (slice_get l h)) e ∙ sym (runs_by_status s h)

-- ---- one step

-- the first step of a round
first_step : (s t : State) (h n : ℕ) (event : Event) → 1 ≤ n → (u : State) → StepsQuietly h n s u → step_of s h ≡ Some (event, t) → IsQuietStep h s t
first_step s t h zero event some u steps step = absurd (omega arith)
first_step s t h (suc n) event some u (next, quiet, rest) step =
    subst (λ (x : State). IsQuietStep h s x) (same_step s next t h (Moved quiet.moves.0) event quiet.moves.1 step) quiet

quiet_changes_nothing : (s t : State) (h : ℕ) → IsQuietStep h s t → NothingChanged s t
quiet_changes_nothing s t h quiet =
    record { memory = quiet.memory; output = quiet.output; statuses = moved_statuses s t h quiet.moves.0 quiet.moves.1 }

waits_still : LocalityLaw → OtherHartsStay → StoreKeepsOtherBytes → (s t : State) (j : ℕ) (event : Event) → step_of s j ≡ Some (event, t) → t.memory ≡ s.memory → (h : ℕ) → Waits s h → Waits t h
waits_still local stay keeps s t j event step memory h (n, round) =
    elim (cases_eq j h) [
      | inl same ↦
          let own : step_of s h ≡ Some (event, t) = ap (step_of s) (sym same) ∙ step in
          (n, after_its_steps local keeps s t h n event round own)
      | inr other ↦
          let here : IsWhereItWas h s t = where_left stay s t round.back.0 h j event round.back.2 step other in
          (n, round_alike local keeps h n s t round here (λ address size need. rw memory refl) (λ address e. rw memory refl))
    ]

pub stuck_step : LocalityLaw → OtherHartsStay → StepsOfRunningHarts → StoreKeepsOtherBytes → (s t : State) (j : ℕ) (event : Event) → IsStuck s → step_of s j ≡ Some (event, t) → NothingChanged s t × IsStuck t
stuck_step local stay runs keeps s t j event stuck step =
    let running : Runs s j = sym (runs s j) ∙ ap is_some step in
    let waits = stuck.each j running in
    let quiet : IsQuietStep j s t = first_step s t j waits.0 event waits.1.some waits.1.back.0 waits.1.back.1 step in
    let nothing : NothingChanged s t = quiet_changes_nothing s t j quiet in
    let each : (h : ℕ) → Runs t h → Waits t h = λ h r. waits_still local stay keeps s t j event step quiet.memory h (stuck.each h (sym (same_running s t h nothing.statuses) ∙ r)) in
    (nothing, record { some = (j, same_running s t j nothing.statuses ∙ running); each = each })

-- ---- some steps

nothing_more : (s t u : State) → NothingChanged s t → NothingChanged t u → NothingChanged s u
nothing_more s t u a b = record { memory = b.memory ∙ a.memory; output = b.output ∙ a.output; statuses = b.statuses ∙ a.statuses }

run_on : (s t : State) (h : ℕ) (hs : List ℕ) (o : Option (Event × State)) → step_of s h ≡ o → option_and_then (λ step. run step.1 hs) o ≡ Some t → (event : Event) × (next : State) × (step_of s h ≡ Some (event, next)) × (run next hs ≡ Some t)
run_on s t h hs None step e = cc
run_on s t h hs (Some (event, next)) step e = (event, next, step, e)

pub stuck_runs : LocalityLaw → OtherHartsStay → StepsOfRunningHarts → StoreKeepsOtherBytes → StuckForEver
stuck_runs local stay runs keeps s t [] stuck ran =
    let same : s ≡ t = cc in
    (subst (λ (x : State). NothingChanged s x) same (record { memory = refl; output = refl; statuses = refl }), subst IsStuck same stuck)
stuck_runs local stay runs keeps s t (h ∷ hs) stuck ran =
    let first = run_on s t h hs (step_of s h) refl ran in
    let one = stuck_step local stay runs keeps s first.1 h first.0 stuck first.2 in
    let rest = stuck_runs local stay runs keeps first.1 t hs one.1 first.3 in
    (nothing_more s first.1 t one.0 rest.0, rest.1)
