-- What each hart does where a machine is stuck: one that runs goes round some steps for ever.
use Rattle.std.specs.Prelude.{◌≡◌, ℕ, Bool, true, false, Some, List, [], ◌∷◌, length, slice_get}
use Rattle.rv_hart.specs.NextAccess.{next_access}
use Rattle.rv_hart.specs.SomeHart.{SomeHart}
use Rattle.rv_hart.specs.State.{State}
use Rattle.rv_hart.specs.Step.{step_of}
use Rattle.rv_hart.specs.declared.access.Event.{Event}
use Rattle.rv_hart.specs.declared.hart.Status.{Status}
use Rattle.rv_hart.specs.declared.hart.Status.TheVariants as status
use Rattle.rv_memory.specs.Memory.{load_permitted}
use Rattle.rv_memory.specs.declared.store.Need.TheVariants as need
use Rattle.rv_waits.specs.Round.{IsRound}
use Rattle.rv_waits.specs.Stuck.{Runs}
use Rattle.rv_stuck.specs.declared.stuck.Doing.{Doing}
use Rattle.rv_stuck.specs.declared.stuck.Doing.TheVariants.{Exited, Stopped, Waits}
use Rattle.rv_stuck.specs.declared.stuck.RoundStep.{RoundStep}
use Rattle.rv_stuck.specs.declared.stuck.StuckEnd.{StuckEnd}

-- ---- steps

-- the next step of hart h in state s: the hart's pc, the four bytes there, and the access that it would make
pub record IsNext (s : State) (h : ℕ) (step : RoundStep) : Type 0 where
  pub at_pc : SomeHart (λ hart. step.pc ≡ hart.pc) s h
  pub has_word : step.word ≡ load_permitted s.memory step.pc 4 need.Nothing
  pub accesses : step.access ≡ next_access s h

-- hart h makes this step, from s to t
pub record IsStepOf (h : ℕ) (step : RoundStep) (s t : State) : Type 0 where
  pub next : IsNext s h step
  pub made : (event : Event) × (step_of s h ≡ Some (event, t))

-- hart h makes these steps, one after another and alone, from s to t
abbrev pub StepsLead : ℕ → List RoundStep → State → State → Type 0
StepsLead h [] s t = s ≡ t
StepsLead h (step ∷ steps) s t = (next : State) × IsStepOf h step s next × StepsLead h steps next t

-- hart h makes these steps from s, alone
abbrev pub AreStepsOf : ℕ → List RoundStep → State → Type 0
AreStepsOf h steps s = (t : State) × StepsLead h steps s t

-- they are a round of hart h: by them it comes back to where it is, and changes nothing on its way
pub record IsRoundOf (s : State) (h : ℕ) (steps : List RoundStep) : Type 0 where
  pub round : IsRound s h (length steps)
  pub made : AreStepsOf h steps s

-- ---- what a hart does

abbrev pub is_exited : Status → Bool
is_exited status.Running = false
is_exited (status.Exited code) = true
is_exited (status.Stopped cause) = false

abbrev pub is_stopped : Status → Bool
is_stopped status.Running = false
is_stopped (status.Exited code) = false
is_stopped (status.Stopped cause) = true

-- hart h has exited, has stopped, or runs and goes round these steps
abbrev pub IsDoing : State → ℕ → Doing → Type 0
IsDoing s h Exited = SomeHart (λ hart. is_exited hart.status ≡ true) s h
IsDoing s h Stopped = SomeHart (λ hart. is_stopped hart.status ≡ true) s h
IsDoing s h (Waits steps) = Runs s h × IsRoundOf s h steps.items

abbrev pub SomeRuns : State → Type 0
SomeRuns s = (h : ℕ) × Runs s h

-- some hart runs, and this is what each hart does
pub record IsStuckEnd (s : State) (end : StuckEnd) : Type 0 where
  pub some : SomeRuns s
  pub count : length end.harts.items ≡ length s.harts
  pub each : (h : ℕ) (doing : Doing) → slice_get end.harts.items h ≡ Some doing → IsDoing s h doing
