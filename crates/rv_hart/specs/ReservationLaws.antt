-- What a step leaves of the harts' reservations, exactly, and what it accesses.
use Rattle.std.specs.Prelude.{◌≡◌, ◌≢◌, ℕ, ◌+◌, Bool, false, ◌&&◌, nat_lt, if◌then◌else◌, Option, Some, None, option_and_then, is_some, slice_get}
use Rattle.rv_hart.specs.NextAccess.{accessed, next_access}
use Rattle.rv_hart.specs.Refusals.{is_running_hart}
use Rattle.rv_hart.specs.State.{State}
use Rattle.rv_hart.specs.Step.{step_of, action_at}
use Rattle.rv_hart.specs.declared.access.Access.{Access}
use Rattle.rv_hart.specs.declared.access.Event.{Event}
use Rattle.rv_hart.specs.declared.action.Action.{Action}
use Rattle.rv_hart.specs.declared.action.Action.TheVariants.{Trap, Set, Load, Store, Reserve, Conditional, Replace, Print, Exit}
use Rattle.rv_hart.specs.declared.hart.Hart.{Hart}
use Rattle.rv_memory.specs.Memory.{IsSize}

-- the address of the word that hart h holds a reservation of, if it holds one
abbrev pub reservation_at : State → ℕ → Option ℕ
reservation_at s h = option_and_then (λ hart. hart.reservation) (slice_get s.harts h)

-- What an action leaves of its own hart's reservation: an LR's word after an LR, none after an SC, and
-- else what there was. An LR or SC that traps is neither, but a trap.
abbrev pub own_after : Action → Option ℕ → Option ℕ
own_after (Reserve rd address) held = Some address
own_after (Conditional rd address value) held = None
own_after (Replace rd address combine value) held = held
own_after (Load rd address size signed) held = held
own_after (Store address size value) held = held
own_after (Set rd value next) held = held
own_after (Trap cause) held = held
own_after (Print byte) held = held
own_after (Exit code) held = held

-- the access writes a byte of the word at the address
abbrev pub writes_word : Option Access → ℕ → Bool
writes_word None word = false
writes_word (Some access) word =
    access.write && (nat_lt access.first (word + 4) && nat_lt word (access.first + access.size))

-- what an access leaves of another hart's reservation: what there was, unless it writes a byte of its word
abbrev pub left_by : Option Access → Option ℕ → Option ℕ
left_by access None = None
left_by access (Some word) = if writes_word access word then None else Some word

-- a step is there for a running hart, and for nothing else
abbrev pub StepsOfRunningHarts : Type 0
StepsOfRunningHarts = (s : State) (h : ℕ) → is_some (step_of s h) ≡ is_running_hart (slice_get s.harts h)

-- the hart's own reservation after its step
abbrev pub OwnReservation : Type 0
OwnReservation =
    (before after : State) (h : ℕ) (event : Event) (hart : Hart) → step_of before h ≡ Some (event, after) → slice_get before.harts h ≡ Some hart → reservation_at after h ≡ own_after (action_at before.memory hart) hart.reservation

-- and each other hart's
abbrev pub OthersReservations : Type 0
OthersReservations =
    (before after : State) (h other : ℕ) (event : Event) → step_of before h ≡ Some (event, after) → other ≢ h → reservation_at after other ≡ left_by (accessed event) (reservation_at before other)

-- the access that a step makes is the one that was next before it
abbrev pub NextIsMade : Type 0
NextIsMade = (before after : State) (h : ℕ) (event : Event) → step_of before h ≡ Some (event, after) → next_access before h ≡ accessed event

-- it has 1, 2 or 4 bytes
abbrev pub SizesOfAccesses : Type 0
SizesOfAccesses = (s : State) (h : ℕ) (access : Access) → next_access s h ≡ Some access → IsSize access.size
