-- A hart that waits goes on waiting until another hart changes a byte that its round touches.
use Rattle.std.specs.Prelude.{◌≡◌, ◌≢◌, ℕ, Some}
use Rattle.rv_hart.specs.State.{State}
use Rattle.rv_hart.specs.Step.{step_of}
use Rattle.rv_hart.specs.declared.access.Event.{Event}
use Rattle.rv_memory.specs.Memory.{byte}
use Rattle.rv_waits.specs.Round.{IsRound}
use Rattle.rv_waits.specs.Touches.{Touches}

-- each byte that the round of n steps touches is the same in both states
abbrev pub IsUntouched : State → State → ℕ → ℕ → Type 0
IsUntouched s t h n = (address : ℕ) → Touches h n s address → byte t.memory address ≡ byte s.memory address

-- a step of another hart that changes no byte of the round's instructions and accesses leaves it waiting, in the same round
abbrev pub WaitsUntilTouched : Type 0
WaitsUntilTouched =
    (s t : State) (h j n : ℕ) (event : Event) → IsRound s h n → step_of s j ≡ Some (event, t) → j ≢ h → IsUntouched s t h n → IsRound t h n

-- its own steps leave it waiting, in a round as long
abbrev pub WaitsAfterItsSteps : Type 0
WaitsAfterItsSteps = (s t : State) (h n : ℕ) (event : Event) → IsRound s h n → step_of s h ≡ Some (event, t) → IsRound t h n
