-- What a step of a hart depends on, where it is no SC.
use Rattle.std.specs.Prelude.{◌≡◌, ℕ, Bool, true, false, Option, Some, None, ◌++◌, slice_get}
use Rattle.rv_hart.specs.SomeHart.{SomeHart}
use Rattle.rv_hart.specs.State.{State}
use Rattle.rv_hart.specs.Step.{step_of, action_at, loaded_by, written_by, memory_after, printed}
use Rattle.rv_hart.specs.StepLaws.{SameButReservation}
use Rattle.rv_hart.specs.declared.access.Event.{Event}
use Rattle.rv_hart.specs.declared.action.Action.{Action}
use Rattle.rv_hart.specs.declared.action.Action.TheVariants.{Trap, Set, Load, Store, Reserve, Conditional, Replace, Print, Exit}
use Rattle.rv_hart.specs.declared.hart.Hart.{Hart}
use Rattle.rv_hart.specs.declared.write.Write.{Write}
use Rattle.rv_memory.specs.Memory.{Memory, load, permits}
use Rattle.rv_memory.specs.declared.store.Need.{Need}

-- the action is an SC, be it one that succeeds or one that fails
abbrev pub is_conditional : Action → Bool
is_conditional (Conditional rd address value) = true
is_conditional (Trap cause) = false
is_conditional (Set rd value next) = false
is_conditional (Load rd address size signed) = false
is_conditional (Store address size value) = false
is_conditional (Reserve rd address) = false
is_conditional (Replace rd address combine value) = false
is_conditional (Print byte) = false
is_conditional (Exit code) = false

-- the hart's next step is an SC
abbrev pub at_conditional : Memory → Option Hart → Bool
at_conditional m None = false
at_conditional m (Some hart) = is_conditional (action_at m hart)

-- each access is permitted in both memories or in neither
abbrev pub SamePermissions : Memory → Memory → Type 0
SamePermissions m n = (address size : ℕ) (need : Need) → permits n address size need ≡ permits m address size need

-- two memories are alike to a hart: in their permissions, in the word at its pc, and in what its next step loads
pub record AreAlikeTo (hart : Hart) (m n : Memory) : Type 0 where
  pub permissions : SamePermissions m n
  pub word : load n hart.pc 4 ≡ load m hart.pc 4
  pub loaded : loaded_by n (action_at m hart) ≡ loaded_by m (action_at m hart)

-- hart h is the same in both states but for its reservation, the memories are alike to it, and its next step is no SC
pub record StandsAlike (s t : State) (h : ℕ) (hart other : Hart) : Type 0 where
  pub there : slice_get s.harts h ≡ Some hart
  pub there_too : slice_get t.harts h ≡ Some other
  pub same : SameButReservation hart other
  pub memory : AreAlikeTo hart s.memory t.memory
  pub no_sc : is_conditional (action_at s.memory hart) ≡ false

-- what the hart's next step writes
abbrev pub next_write : Memory → Hart → Option Write
next_write m hart = written_by (loaded_by m (action_at m hart)) hart (action_at m hart)

-- from both states hart h takes the same action: it leaves the hart the same but for its reservation, writes the same
-- bytes, and prints the same
pub record GoesOnAlike (s after t after_too : State) (h : ℕ) (hart other : Hart) : Type 0 where
  pub action : action_at t.memory other ≡ action_at s.memory hart
  pub left : SomeHart (λ one. SomeHart (SameButReservation one) after_too h) after h
  pub memory : after.memory ≡ memory_after s.memory (next_write s.memory hart)
  pub memory_too : after_too.memory ≡ memory_after t.memory (next_write s.memory hart)
  pub output : after.output ≡ s.output ++ printed (action_at s.memory hart)
  pub output_too : after_too.output ≡ t.output ++ printed (action_at s.memory hart)

-- A step that is no SC is a function of its hart's registers, pc and status, of the permissions, and of the bytes that it
-- reads, its instruction among them: in two states that agree on these it is the same event, leaves the hart the same,
-- writes the same and prints the same.
abbrev pub LocalityLaw : Type 0
LocalityLaw =
    (s t after : State) (h : ℕ) (hart other : Hart) (made : Event) → StandsAlike s t h hart other → step_of s h ≡ Some (made, after) → (after_too : State) × (step_of t h ≡ Some (made, after_too)) × GoesOnAlike s after t after_too h hart other
