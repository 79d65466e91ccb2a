-- What a call adds to a stored schedule, or its first refusal.
use Rattle.std.specs.Prelude.{ℕ, ◌%◌, ◌==◌, Bool, false, not, nat_lt, is_some, Option, Some, None, if◌then◌else◌, List, length, count_by, find, Result, Ok}
use Rattle.std.specs.FinSet.{contains, len}
use Rattle.std.specs.List.{list_any, range_with_len}
use Rattle.std.specs.Option.{option_map_or}
use Rattle.rv_break.specs.declared.claim.TheConstants.{ARMED_LIMIT}
use Rattle.rv_collide.specs.Armed.{armed, arms}
use Rattle.rv_collide.specs.Entries.{steps}
use Rattle.rv_collide.specs.Next.{runs_at, plain}
use Rattle.rv_collide.specs.Pause.{Opening, openings, opening_of}
use Rattle.rv_collide.specs.Plan.{Numbers}
use Rattle.rv_collide.specs.declared.entry.Entry.{Entry}
use Rattle.rv_collide.specs.declared.entry.Entry.TheVariants as entry
use Rattle.rv_collide.specs.declared.refused.Refused.{Refused}
use Rattle.rv_collide.specs.declared.refused.Refused.TheVariants.{NoHart, NotRunning, Paused, StepsSpent, NotPaused, ArmsSpent, Misaligned, AlreadyArmed, ArmedFull, NotArmed}
use Rattle.rv_hart.specs.State.{State}
use Rattle.rv_hart.specs.declared.access.Access.{Access}
use Rattle.rv_memory.specs.Chain.{◌>>=◌, want}

-- Where a run begins, and its plan.
pub record Setting : Type 0 where
  pub start : State
  pub plan : Numbers

-- The calls that change a run: a turn of a hart, the end of its pause, an address to arm or to disarm.
pub data Call : Type 0 where
  Turn : ℕ → Call
  Resume : ℕ → Call
  Arm : ℕ → Call
  Disarm : ℕ → Call

-- the slot watches an open pause
unfoldable pub is_taken : List Entry → ℕ → Bool
is_taken entries slot = list_any (λ (o : Opening). option_map_or (λ other. other == slot) o.slot false) (openings entries)

-- the least of so many slots that watches no open pause, if there is one
unfoldable pub least_free : ℕ → List Entry → Option ℕ
least_free slots entries = find (λ slot. not (is_taken entries slot)) (range_with_len 0 slots)

-- A turn pauses its hart where it stands at an armed address and would make a plain load or store; else the
-- hart makes a step.
abbrev pub turn_entry : Setting → List Entry → ℕ → Option Access → Entry
turn_entry setting entries hart None = entry.Stepped hart
turn_entry setting entries hart (Some access) =
    if contains (armed setting.start entries) access.pc then entry.Paused hart (least_free setting.plan.slots entries) else entry.Stepped hart

abbrev pub forced_turn : Setting → List Entry → ℕ → Result Entry Refused
forced_turn setting entries hart =
    want (nat_lt hart setting.plan.harts) NoHart
    >>= λ _. want (runs_at setting.start entries (length entries) hart) NotRunning
    >>= λ _. want (not (is_some (opening_of entries hart))) Paused
    >>= λ _. want (nat_lt (length (steps entries)) setting.plan.steps) StepsSpent
    >>= λ _. Ok (turn_entry setting entries hart (plain setting.start entries (length entries) hart))

abbrev pub forced_resume : Setting → List Entry → ℕ → Result Entry Refused
forced_resume setting entries hart =
    want (nat_lt hart setting.plan.harts) NoHart
    >>= λ _. want (is_some (opening_of entries hart)) NotPaused
    >>= λ _. Ok (entry.Resumed hart)

abbrev pub forced_arm : Setting → List Entry → ℕ → Result Entry Refused
forced_arm setting entries address =
    want (nat_lt (count_by arms entries) setting.plan.arms) ArmsSpent
    >>= λ _. want (address % 4 == 0) Misaligned
    >>= λ _. want (not (contains (armed setting.start entries) address)) AlreadyArmed
    >>= λ _. want (nat_lt (len (armed setting.start entries)) ARMED_LIMIT) ArmedFull
    >>= λ _. Ok (entry.Armed address)

abbrev pub forced_disarm : Setting → List Entry → ℕ → Result Entry Refused
forced_disarm setting entries address =
    want (contains (armed setting.start entries) address) NotArmed >>= λ _. Ok (entry.Disarmed address)

-- the entry that a call at the end of the list adds, or its first refusal
unfoldable pub forced : Setting → List Entry → Call → Result Entry Refused
forced setting entries (Turn hart) = forced_turn setting entries hart
forced setting entries (Resume hart) = forced_resume setting entries hart
forced setting entries (Arm address) = forced_arm setting entries address
forced setting entries (Disarm address) = forced_disarm setting entries address
