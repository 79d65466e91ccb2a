-- How a runner goes on.
use Rattle.std.proofs.Common.{◌≡◌, ◌≢◌, ℕ, zero, suc, ◌+◌, ◌≤◌, ◌<◌, Bool, true, false, List, [], ◌∷◌, ◌++◌, length, Option, Some, None, refl, sym, ap, subst, ◌∙◌, arith}
use Rattle.std.specs.Prelude.{Err, IsSomeAnd, Ok, OnOk, Result, not, option_and_then, slice_get}
use Rattle.std.proofs.lemmas.Bool.{leb-true}
use Rattle.std.proofs.lemmas.List.{length-append}
use Rattle.rv_hart.specs.Refusals.{is_running_hart}
use Rattle.rv_hart.specs.Run.{run}
use Rattle.rv_hart.specs.State.{Guest, State, is_running}
use Rattle.rv_hart.specs.Step.{step_of}
use Rattle.rv_hart.specs.StepAnswer.{AnswersStep}
use Rattle.rv_hart.specs.StepLaws.{OtherHartsStay, OutputLaw, SameButReservation}
use Rattle.rv_hart.specs.declared.access.Event.{Event}
use Rattle.rv_hart.specs.declared.hart.Hart.{Hart}
use Rattle.rv_hart.specs.declared.machine.StepFault.{StepFault}
use Rattle.rv_hart.specs.declared.machine.StepFault.TheVariants.{NoHart, NotRunning, OutputFull, NoMemory}
use Rattle.rv_waits.specs.Stuck.{Runs}
use Rattle.rv_waits.specs.Watch.{IsWatchOf}
use Rattle.rv_waits.specs.declared.watch.Anchor.{Anchor}
use Rattle.rv_orders.specs.internal.Gone.{Gone, IsGone, IsOneMore}

-- ---- one step

pub runs_within : (harts : List Hart) (h : ℕ) → is_running_hart (slice_get harts h) ≡ true → h < length harts
runs_within [] h is = let e : false ≡ true = is in cc
runs_within (x ∷ xs) zero is = omega arith
runs_within (x ∷ xs) (suc h) is = let e : h < length xs = runs_within xs h is in omega arith

-- of a hart that runs, with room to print, a step is refused for want of memory alone
pub only_memory : (can : Bool) (old new : Guest) (h : ℕ) (fault : StepFault) → AnswersStep can old new h (Err fault) → Runs old.state h → length old.state.output < old.limit → fault ≡ NoMemory
only_memory can old new h NoHart is runs room =
    let e : length old.state.harts ≤ h = is.no_hart.0 refl in
    let l : h < length old.state.harts = runs_within old.state.harts h runs in
    absurd (omega arith)
only_memory can old new h NotRunning is runs room =
    let e : false ≡ true = subst (λ (b : Bool). not b ≡ true) runs (is.not_running.0 refl).idle in cc
only_memory can old new h OutputFull is runs room =
    let e : old.limit ≤ length old.state.output = leb-true old.limit (length old.state.output) (is.output_full.0 refl).full in absurd (omega arith)
only_memory can old new h NoMemory is runs room = refl

pub run_append : (s : State) (hs ks : List ℕ) → run s (hs ++ ks) ≡ option_and_then (λ t. run t ks) (run s hs)
run_append s [] ks = refl
run_append s (h ∷ hs) ks =
    elim (step_of s h) as (λ (o : Option (Event × State)). option_and_then (λ step. run step.1 (hs ++ ks)) o ≡ option_and_then (λ t. run t ks) (option_and_then (λ step. run step.1 hs) o)) [
      | None ↦ refl
      | Some step ↦ run_append step.1 hs ks
    ]

run_more : (s t u : State) (hs : List ℕ) (h : ℕ) (event : Event) → run s hs ≡ Some t → step_of t h ≡ Some (event, u) → run s (hs ++ h ∷ []) ≡ Some u
run_more s t u hs h event there step =
    run_append s hs (h ∷ []) ∙ ap (option_and_then (λ v. run v (h ∷ []))) there ∙ ap (option_and_then (λ (made : Event × State). run made.1 [])) step

-- a list to which one more was pushed, once room was made
pub pushed : (old roomy new : List ℕ) (h : ℕ) → roomy ≡ old → new ≡ roomy ++ h ∷ [] → new ≡ old ++ h ∷ []
pushed old roomy new h same longer = longer ∙ ap (λ (hs : List ℕ). hs ++ h ∷ []) same

-- a run with other harts, and another last state
abbrev pub gone_to : Gone → List ℕ → State → Gone
gone_to gone harts state = record gone { harts = harts; state = state }

-- what a runner keeps after one more step
pub kept_after : OutputLaw → (gone : Gone) (old new : Guest) (was anchors : List Anchor) (harts : List ℕ) (h : ℕ) (event : Event) → gone.state ≡ old.state → IsGone gone old was → length gone.harts < gone.most → step_of old.state h ≡ Some (event, new.state) → new.limit ≡ old.limit → IsWatchOf anchors new.state → harts ≡ gone.harts ++ h ∷ [] → IsGone (gone_to gone harts new.state) new anchors
kept_after output gone old new was anchors harts h event at is left step limit watch longer =
    let out = output old.state new.state h event step in
    let printed : length new.state.output ≡ length old.state.output + length out.0 = ap length out.2 ∙ length-append old.state.output out.0 in
    let few : length out.0 ≤ 1 = out.1 in
    let longer_by : length harts ≡ length gone.harts + 1 = ap length longer ∙ length-append gone.harts (h ∷ []) in
    let first : length gone.state.output + gone.most ≤ old.limit + length gone.harts = is.prints in
    let same : length gone.state.output ≡ length old.state.output = ap (λ (s : State). length s.output) at in
    record {
      reached = ap (run gone.start) longer ∙ run_more gone.start old.state new.state gone.harts h event (is.reached ∙ ap Some at) step;
      watched = watch;
      few = omega arith;
      prints = omega arith;
    }

running_is : (o : Option Hart) → is_running_hart o ≡ true → (hart : Hart) × (o ≡ Some hart) × (is_running hart.status ≡ true)
running_is None e = cc
running_is (Some hart) e = (hart, refl, e)

runs_still : (o : Option Hart) (hart : Hart) → is_running hart.status ≡ true → IsSomeAnd o (SameButReservation hart) → is_running_hart o ≡ true
runs_still None hart runs same = absurd same
runs_still (Some other) hart runs same = ap is_running same.status ∙ runs

-- a step of one hart ends no other
pub others_run : OtherHartsStay → (s t : State) (h : ℕ) (event : Event) → step_of s h ≡ Some (event, t) → (other : ℕ) → other ≢ h → Runs s other → Runs t other
others_run stay s t h event step other apart runs =
    let hart = running_is (slice_get s.harts other) runs in
    runs_still (slice_get t.harts other) hart.0 hart.2 (stay s t h event step other apart hart.0 hart.1)

-- a runner that has noted its step has made one more
pub one_more : {A E : Type 0} (noted : Result A E) → OtherHartsStay → (own old : Gone) (harts : List ℕ) (t : State) (h : ℕ) (event : Event) → own ≡ old → harts ≡ own.harts ++ h ∷ [] → step_of own.state h ≡ Some (event, t) → OnOk noted (IsOneMore old (gone_to own harts t) h)
one_more (Err e) stay own old harts t h event view longer step = tt
one_more (Ok a) stay own old harts t h event view longer step =
    subst (λ (from : Gone). IsOneMore from (gone_to own harts t) h) view (record {
      start = refl;
      harts = longer;
      most = refl;
      moved = ap (option_and_then (λ (made : Event × State). run made.1 [])) step;
      others = λ other apart runs. others_run stay own.state t h event step other apart runs;
    })
