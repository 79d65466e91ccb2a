-- What a legal schedule says to a machine alone that goes through it, step by step.
use Rattle.std.specs.Prelude.{◌≡◌, ℕ, ◌+◌, ◌<◌, ◌≤◌, None, Some, List, [], length, slice_get}
use Rattle.rv_collide.specs.Entries.{stepped_hart}
use Rattle.rv_collide.specs.Forced.{Setting}
use Rattle.rv_collide.specs.Legal.{IsLegal}
use Rattle.rv_collide.specs.Made.{made}
use Rattle.rv_collide.specs.StateAt.{state_at}
use Rattle.rv_collide.specs.declared.entry.Entry.{Entry}
use Rattle.rv_collide.specs.declared.entry.Entry.TheVariants.{Stepped}
use Rattle.rv_hart.specs.NextAccess.{accessed}
use Rattle.rv_hart.specs.State.{State}
use Rattle.rv_hart.specs.Step.{step_of}
use Rattle.rv_hart.specs.declared.access.Event.{Event}

-- The hart of the entry has a step to make. It leads to the state at the next place, its access is what the entry
-- made, and one more byte may be printed.
pub record StepsOn (setting : Setting) (entries : List Entry) (place hart : ℕ) (state : State) : Type 0 where
  pub event : Event
  pub after : State
  pub step : step_of state hart ≡ Some (event, after)
  pub reached : state_at setting.start entries (place + 1) ≡ Some after
  pub access : accessed event ≡ made setting.start entries place
  pub room : length state.output < setting.plan.steps

abbrev pub StepsLeadOn : Type 0
StepsLeadOn =
    (setting : Setting) (entries : List Entry) → IsLegal setting entries → setting.start.output ≡ [] → (place hart : ℕ) → slice_get entries place ≡ Some (Stepped hart) → (state : State) → state_at setting.start entries place ≡ Some state → StepsOn setting entries place hart state

-- An entry that is no step leaves the state, and accesses nothing.
pub record Stays (setting : Setting) (entries : List Entry) (place : ℕ) : Type 0 where
  pub reached : state_at setting.start entries (place + 1) ≡ state_at setting.start entries place
  pub access : made setting.start entries place ≡ None

abbrev pub OthersStay : Type 0
OthersStay =
    (setting : Setting) (entries : List Entry) (place : ℕ) (entry : Entry) → slice_get entries place ≡ Some entry → stepped_hart entry ≡ None → Stays setting entries place

-- No more bytes are printed than the plan has steps.
abbrev pub StepsPrintFew : Type 0
StepsPrintFew =
    (setting : Setting) (entries : List Entry) → IsLegal setting entries → setting.start.output ≡ [] → (place : ℕ) → place ≤ length entries → (state : State) → state_at setting.start entries place ≡ Some state → length state.output ≤ setting.plan.steps
