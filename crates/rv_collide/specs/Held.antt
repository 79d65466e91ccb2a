-- Reservations, told a second time: by what was done before.
use Rattle.std.specs.Prelude.{◌≡◌, ◌≢◌, ℕ, ◌<◌, Bool, true, false, Option, Some, None, option_map, option_and_then, List, slice_get}
use Rattle.std.specs.Option.{option_map_or}
use Rattle.rv_collide.specs.Entries.{stepped_at}
use Rattle.rv_collide.specs.Made.{made}
use Rattle.rv_collide.specs.StateAt.{state_at}
use Rattle.rv_collide.specs.declared.entry.Entry.{Entry}
use Rattle.rv_hart.specs.State.{State}
use Rattle.rv_hart.specs.Step.{action_at}
use Rattle.rv_hart.specs.ReservationLaws.{writes_word}
use Rattle.rv_hart.specs.declared.action.Action.{Action}
use Rattle.rv_hart.specs.declared.action.Action.TheVariants.{Trap, Set, Load, Store, Reserve, Conditional, Replace, Print, Exit}
use Rattle.rv_hart.specs.declared.hart.Hart.{Hart}

-- what a hart does at its next step from a place
unfoldable pub action : State → List Entry → ℕ → ℕ → Option Action
action start entries place hart =
    option_and_then (λ (s : State). option_map (λ (h : Hart). action_at s.memory h) (slice_get s.harts hart)) (state_at start entries place)

-- the word that an LR reserves; an LR that traps is none
abbrev pub reserved_by : Action → Option ℕ
reserved_by (Reserve rd address) = Some address
reserved_by (Conditional rd address value) = None
reserved_by (Trap cause) = None
reserved_by (Set rd value next) = None
reserved_by (Load rd address size signed) = None
reserved_by (Store address size value) = None
reserved_by (Replace rd address combine value) = None
reserved_by (Print byte) = None
reserved_by (Exit code) = None

-- an LR or an SC that does not trap
abbrev pub is_lr_or_sc : Action → Bool
is_lr_or_sc (Reserve rd address) = true
is_lr_or_sc (Conditional rd address value) = true
is_lr_or_sc (Trap cause) = false
is_lr_or_sc (Set rd value next) = false
is_lr_or_sc (Load rd address size signed) = false
is_lr_or_sc (Store address size value) = false
is_lr_or_sc (Replace rd address combine value) = false
is_lr_or_sc (Print byte) = false
is_lr_or_sc (Exit code) = false

-- The hart holds a reservation of the word at the address: its last LR or SC before the place was an LR of
-- it, and no other hart has written to the word since.
pub record Held (start : State) (entries : List Entry) (place hart address : ℕ) : Type 0 where
  pub at : ℕ
  pub before : at < place
  pub own : stepped_at entries at ≡ Some hart
  pub reserves : option_and_then reserved_by (action start entries at hart) ≡ Some address
  pub last : (later : ℕ) → at < later → later < place → stepped_at entries later ≡ Some hart → option_map_or is_lr_or_sc (action start entries later hart) false ≡ false
  pub kept : (later other : ℕ) → at < later → later < place → other ≢ hart → stepped_at entries later ≡ Some other → writes_word (made start entries later) address ≡ false
