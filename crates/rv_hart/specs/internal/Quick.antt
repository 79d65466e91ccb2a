use Rattle.std.specs.Prelude.{◌≡◌, ℕ, Bool, true, false, IsTrue, Option, Some, None, List, [], length, slice_get, IfSome}
use Rattle.rv_hart.specs.NextAccess.{accessed}
use Rattle.rv_hart.specs.Refusals.{is_print, is_running_hart, prints}
use Rattle.rv_hart.specs.State.{State, is_running}
use Rattle.rv_hart.specs.Step.{event_of, fetched, hart_after, loaded_by, memory_after, printed, seen_by, step_of, written_by}
use Rattle.rv_hart.specs.declared.access.Access.{Access}
use Rattle.rv_hart.specs.declared.access.Event.{Event}
use Rattle.rv_hart.specs.declared.access.AccessKind.{AccessKind}
use Rattle.rv_hart.specs.declared.access.Event.TheVariants as event
use Rattle.rv_hart.specs.declared.access.Noted.{Noted}
use Rattle.rv_hart.specs.declared.action.Action.{Action}
use Rattle.rv_hart.specs.declared.hart.Hart.{Hart}
use Rattle.rv_hart.specs.declared.quick.Attempt.{Attempt}
use Rattle.rv_hart.specs.declared.quick.Attempt.TheVariants as attempt
use Rattle.rv_hart.specs.declared.write.Write.{Write}
use Rattle.rv_hart.specs.internal.AccessKind.{access_of_kind, need_of}
use Rattle.rv_hart.specs.internal.HartAccess.{hart_plain}
use Rattle.rv_hart.specs.internal.Harts.{any_holds, holds, write_of_access}
use Rattle.rv_hart.specs.internal.Machine.{RunsTo}
use Rattle.rv_memory.specs.Memory.{Memory, load_permitted, permits}
use Rattle.rv_memory.specs.Sound.{IsSound}
use Rattle.rv_memory.specs.declared.store.Need.TheVariants.{Execute}

-- the hart runs, and this is the word at its pc, where it may execute
pub record Fetches (memory : Memory) (word : ℕ) (hart : Hart) : Type 0 where
  pub running : IsTrue (is_running hart.status)
  pub word_is : load_permitted memory hart.pc 4 Execute ≡ Some word

-- the hart runs, and this is its instruction's action, whose access is not tested yet
pub record Begins (memory : Memory) (action : Action) (hart : Hart) : Type 0 where
  pub running : IsTrue (is_running hart.status)
  pub action_is : action ≡ fetched memory hart

abbrev pub over : List Hart → Memory → List ℕ → State
over harts memory output = record { harts = harts; memory = memory; output = output }

-- what other harts see of an event: the write of its access
abbrev pub write_of : Event → Option Write
write_of (event.Moved None) = None
write_of (event.Moved (Some access)) = write_of_access access
write_of (event.Exited code) = None
write_of (event.Stopped cause) = None

-- A hart's own part of a step, `old` before it and `new` after it. It prints nothing, and what others see of
-- it stands in its event. Only one that reserves (an LR) may leave a reservation where there was none.
pub record Moves (passes : ℕ → Type 0) (old new : Hart) (before after : Memory) (event : Event) (reserving : Bool) : Type 0 where
  pub action : Action
  pub runs : RunsTo before old action
  pub hart_is : new ≡ hart_after (loaded_by before action) old action
  pub memory_is : after ≡ memory_after before (written_by (loaded_by before action) old action)
  pub event_is : event ≡ event_of old action
  pub none : printed action ≡ []
  pub quiet : is_print action ≡ false
  pub held : reserving ≡ false → holds old ≡ false → holds new ≡ false
  pub passed : IfSome (accessed event) (λ access. passes access.pc)
  pub reads : reserving ≡ true → write_of event ≡ None
  pub seen : (other : Hart) → seen_by (written_by (loaded_by before action) old action) other ≡ seen_by (write_of event) other
  pub sound : IsSound before → IsSound after

-- what trying a hart's own part comes to: that part, or nothing at all
abbrev pub Tried : (ℕ → Type 0) → Hart → Hart → Memory → Memory → Option Event → Bool → Type 0
Tried passes old new before after None reserving = (new ≡ old) × (after ≡ before)
Tried passes old new before after (Some event) reserving = Moves passes old new before after event reserving

-- a step of hart h that prints nothing, whatever was printed before
pub record IsQuick (passes : ℕ → Type 0) (old new : List Hart) (before after : Memory) (h : ℕ) (event : Event) (reserving : Bool) : Type 0 where
  pub step : (output : List ℕ) → step_of (over old before output) h ≡ Some (event, over new after output)
  pub running : IsTrue (is_running_hart (slice_get old h))
  pub passed : IfSome (accessed event) (λ access. passes access.pc)
  pub silent : prints before (slice_get old h) ≡ false
  pub count : length new ≡ length old
  pub sound : IsSound before → IsSound after
  pub held : reserving ≡ false → any_holds old ≡ false → any_holds new ≡ false

-- what trying a step by the quick path comes to: the step, or nothing at all
abbrev pub TriedAt : (ℕ → Type 0) → List Hart → List Hart → Memory → Memory → ℕ → Option Event → Bool → Type 0
TriedAt passes old new before after h None reserving = (new ≡ old) × (after ≡ before)
TriedAt passes old new before after h (Some event) reserving = IsQuick passes old new before after h event reserving

-- the event that an attempt comes to, with the access that was noted
abbrev pub event_of_attempt : Attempt → Access → Option Event
event_of_attempt attempt.Nothing access = None
event_of_attempt attempt.Silent access = Some (event.Moved None)
event_of_attempt attempt.Accessed access = Some (event.Moved (Some access))
event_of_attempt attempt.Reserved access = Some (event.Moved (Some access))

-- the attempt that a plain access or an AMO was, which was made or not
abbrev pub attempt_of_access : Bool → Attempt
attempt_of_access true = attempt.Accessed
attempt_of_access false = attempt.Nothing

-- it was an LR
abbrev pub is_reserving : Attempt → Bool
is_reserving attempt.Nothing = false
is_reserving attempt.Silent = false
is_reserving attempt.Accessed = false
is_reserving attempt.Reserved = true

-- the hart's next access is this plain one, if the memory permits it
abbrev pub BeginsPlain : Memory → Hart → ℕ → ℕ → AccessKind → Type 0
BeginsPlain memory hart first size kind =
    permits memory first size (need_of kind) ≡ true → hart_plain memory hart ≡ Some (access_of_kind kind hart first size)

-- where an attempt notes that a plain access was kept back, nothing was done, and it is the hart's next access
abbrev pub KeepsBack : Memory → Hart → Attempt → Noted → Noted → Type 0
KeepsBack memory hart made before after =
    before.is_kept_back ≡ false → after.is_kept_back ≡ true → (made ≡ attempt.Nothing) × (hart_plain memory hart ≡ Some after.access)

-- the same of hart h
abbrev pub KeepsBackAt : Memory → List Hart → ℕ → Attempt → Noted → Noted → Type 0
KeepsBackAt memory harts h made before after = (hart : Hart) → slice_get harts h ≡ Some hart → KeepsBack memory hart made before after
