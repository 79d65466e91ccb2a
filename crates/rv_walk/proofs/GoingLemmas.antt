-- A walk that is gone over again, one step further.
use Rattle.std.proofs.Common.{◌≡◌, ℕ, ◌+◌, ◌≤◌, ◌<◌, Bool, false, length, take, Some, ap, ◌∙◌, arith, length-append}
use Rattle.std.specs.Prelude.{Err, Ok, Result, is_err, slice_get}
use Rattle.rv_hart.specs.Run.{run}
use Rattle.rv_hart.specs.State.{Guest}
use Rattle.rv_hart.specs.Step.{step_of}
use Rattle.rv_hart.specs.StepAnswer.{AnswersStep}
use Rattle.rv_hart.specs.StepLaws.{OutputLaw}
use Rattle.rv_hart.specs.declared.access.Event.{Event}
use Rattle.rv_hart.specs.declared.machine.StepFault.{StepFault}
use Rattle.rv_walk.specs.Again.{Gone}
use Rattle.rv_walk.specs.internal.Going.{IsGoing}
use Rattle.rv_walk.proofs.LongerLemmas.{run_more}
use Rattle.rv_walk.proofs.TakeLemmas.{take_next}

pub going_on : OutputLaw → (gone : Gone) (old new : Guest) (h : ℕ) (event : Event) → IsGoing gone old → gone.place < length gone.harts → slice_get gone.harts gone.place ≡ Some h → step_of old.state h ≡ Some (event, new.state) → length new.state.harts ≡ length old.state.harts → new.limit ≡ old.limit → IsGoing (record gone { place = gone.place + 1 }) new
going_on output gone old new h event is ahead at step count limit =
    let out = output old.state new.state h event step in
    let printed : length new.state.output ≡ length old.state.output + length out.0 = ap length out.2 ∙ length-append old.state.output out.0 in
    let few : length out.0 ≤ 1 = out.1 in
    let first : length old.state.output ≤ length gone.start.output + gone.place = is.printed in
    let prints : length gone.start.output + length gone.harts ≤ old.limit = is.prints in
    record {
      within = omega arith;
      reached = ap (run gone.start) (take_next gone.harts gone.place h at) ∙ run_more gone.start old.state new.state (take gone.place gone.harts) h event is.reached step;
      count = count ∙ is.count;
      printed = omega arith;
      prints = omega arith;
    }

pub gone_on : OutputLaw → (can : Bool) (gone : Gone) (old new : Guest) (h : ℕ) (answer : Result Event StepFault) → IsGoing gone old → gone.place < length gone.harts → slice_get gone.harts gone.place ≡ Some h → is_err answer ≡ false → AnswersStep can old new h answer → IsGoing (record gone { place = gone.place + 1 }) new
gone_on output can gone old new h (Ok event) is ahead at none told = going_on output gone old new h event is ahead at told.step told.harts told.limit
gone_on output can gone old new h (Err fault) is ahead at none told = cc
