-- What asking for a step answers: the event and the new state, or each refusal where its cause holds.
use Rattle.std.specs.Prelude.{◌≡◌, ℕ, ◌≤◌, ◌↔◌, Bool, IsTrue, Some, Result, Err, IfOk, OnErr, length}
use Rattle.rv_hart.specs.NextAccess.{is_write, next_access}
use Rattle.rv_hart.specs.Refusals.{IsIdle, HasNoRoom}
use Rattle.rv_hart.specs.State.{Guest}
use Rattle.rv_hart.specs.Step.{step_of}
use Rattle.rv_hart.specs.declared.access.Event.{Event}
use Rattle.rv_hart.specs.declared.machine.StepFault.{StepFault}
use Rattle.rv_hart.specs.declared.machine.StepFault.TheVariants.{NoHart, NotRunning, OutputFull, NoMemory}

-- What asking for a step of hart h answers, and what it makes of the guest: the step, or a fault that changes nothing.
-- Only a store that can be refused memory answers that there is none, and only of a step whose access writes.
pub record AnswersStep (can_refuse : Bool) (old new : Guest) (h : ℕ) (answer : Result Event StepFault) : Type 0 where
  pub step : IfOk answer (λ event. step_of old.state h ≡ Some (event, new.state))
  pub harts : length new.state.harts ≡ length old.state.harts
  pub limit : new.limit ≡ old.limit
  pub no_hart : (answer ≡ Err NoHart) ↔ (length old.state.harts ≤ h)
  pub not_running : (answer ≡ Err NotRunning) ↔ IsIdle old.state h
  pub output_full : (answer ≡ Err OutputFull) ↔ HasNoRoom old h
  pub no_memory : (answer ≡ Err NoMemory) → IsTrue can_refuse
  pub no_memory_writes : (answer ≡ Err NoMemory) → IsTrue (is_write (next_access old.state h))
  pub refused : OnErr answer (new ≡ old)
