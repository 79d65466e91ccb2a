-- From a stuck state nothing ever changes.
use Rattle.std.specs.Prelude.{◌≡◌, ℕ, Some, List, map}
use Rattle.rv_hart.specs.Run.{run}
use Rattle.rv_hart.specs.State.{State}
use Rattle.rv_hart.specs.declared.hart.Hart.{Hart}
use Rattle.rv_hart.specs.declared.hart.Status.{Status}
use Rattle.rv_waits.specs.Stuck.{IsStuck}

-- how each hart stands: it runs, exited, or stopped
abbrev pub statuses : State → List Status
statuses s = map (λ (hart : Hart). hart.status) s.harts

-- nothing that counts has changed: each byte, the output and each hart's status are the same
pub record NothingChanged (s t : State) : Type 0 where
  pub memory : t.memory ≡ s.memory
  pub output : t.output ≡ s.output
  pub statuses : statuses t ≡ statuses s

-- whatever harts step from a stuck state on, in whatever order, nothing changes, and the machine is stuck still
abbrev pub StuckForEver : Type 0
StuckForEver =
    (s t : State) (hs : List ℕ) → IsStuck s → run s hs ≡ Some t → NothingChanged s t × IsStuck t
