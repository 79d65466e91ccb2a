-- One step of a walk.
use Rattle.std.proofs.Common.{◌≡◌, ℕ, ◌+◌, ◌≤◌, ◌<◌, Bool, true, false, List, [], ◌∷◌, ◌++◌, length, Some, refl, ap, subst, ◌∙◌, arith}
use Rattle.std.specs.Prelude.{Err, not, slice_get, vec_capacity, Vec}
use Rattle.std.specs.declared.alloc.Global.{Global}
use Rattle.std.proofs.lemmas.Bool.{leb-true}
use Rattle.std.proofs.lemmas.List.{length-append}
use Rattle.rv_hart.specs.Refusals.{is_running_hart}
use Rattle.rv_hart.specs.State.{Guest}
use Rattle.rv_hart.specs.Step.{step_of}
use Rattle.rv_hart.specs.StepAnswer.{AnswersStep}
use Rattle.rv_hart.specs.StepLaws.{OutputLaw}
use Rattle.rv_hart.specs.declared.access.Event.{Event}
use Rattle.rv_hart.specs.declared.machine.StepFault.{StepFault}
use Rattle.rv_hart.specs.declared.machine.StepFault.TheVariants.{NoHart, NotRunning, OutputFull, NoMemory}
use Rattle.rv_waits.specs.Watch.{IsWatchOf}
use Rattle.rv_waits.specs.declared.watch.Anchor.{Anchor}
use Rattle.rv_walk.specs.Walked.{Walked}
use Rattle.rv_walk.specs.declared.accesses.Accesses.{Accesses}
use Rattle.rv_walk.specs.internal.Inside.{AreOf, IsInside}
use Rattle.rv_walk.proofs.StandsLemmas.{runs_within}
use Rattle.rv_walk.proofs.LongerLemmas.{run_more, with_steps}

-- of a hart that runs, with room to print, a step is refused for want of memory alone
pub only_memory : (can : Bool) (old new : Guest) (h : ℕ) (fault : StepFault) → AnswersStep can old new h (Err fault) → is_running_hart (slice_get old.state.harts h) ≡ true → length old.state.output < old.limit → fault ≡ NoMemory
only_memory can old new h NoHart is runs room =
    let e : length old.state.harts ≤ h = is.no_hart.0 refl in
    let l : h < length old.state.harts = runs_within old.state.harts h runs in
    absurd (omega arith)
only_memory can old new h NotRunning is runs room =
    let e : false ≡ true = subst (λ (b : Bool). not b ≡ true) runs (is.not_running.0 refl).idle in cc
only_memory can old new h OutputFull is runs room =
    let e : old.limit ≤ length old.state.output = leb-true old.limit (length old.state.output) (is.output_full.0 refl).full in absurd (omega arith)
only_memory can old new h NoMemory is runs room = refl

-- what a walk keeps after one more step, with what its accesses have become
pub inside_after : OutputLaw → (walk : Walked) (old new : Guest) (was anchors : List Anchor) (harts later : Vec ℕ Global) (before accesses : Accesses) (h : ℕ) (event : Event) → IsInside walk old was harts before → length walk.harts < walk.most → step_of old.state h ≡ Some (event, new.state) → new.limit ≡ old.limit → IsWatchOf anchors new.state → vec_capacity later ≡ vec_capacity harts → AreOf (with_steps walk (h ∷ [])) accesses → IsInside (with_steps walk (h ∷ [])) new anchors later accesses
inside_after output walk old new was anchors harts later before accesses h event is left step limit watch room seen =
    let out = output old.state new.state h event step in
    let printed : length new.state.output ≡ length old.state.output + length out.0 = ap length out.2 ∙ length-append old.state.output out.0 in
    let few : length out.0 ≤ 1 = out.1 in
    let longer_by : length (walk.harts ++ h ∷ []) ≡ length walk.harts + 1 = length-append walk.harts (h ∷ []) in
    let first : length old.state.output + walk.most ≤ old.limit + length walk.harts = is.prints in
    let had : walk.most ≤ vec_capacity harts = is.room in
    record {
      reached = run_more walk.start old.state new.state walk.harts h event is.reached step;
      watched = watch;
      few = omega arith;
      room = omega arith;
      prints = omega arith;
      seen = seen;
    }
