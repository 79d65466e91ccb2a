-- Which addresses are armed: those whose last mention is Armed.
use Rattle.std.specs.Prelude.{ℕ, ◌==◌, ◌&&◌, Bool, true, false, not, Option, Some, None, option_map, option_and_then, if◌then◌else◌, List, [], ◌∷◌, map, slice_get}
use Rattle.std.specs.FinSet.{FinSet, from_list}
use Rattle.std.specs.List.{list_any}
use Rattle.std.specs.Option.{option_map_or}
use Rattle.std.specs.Ordering.{nat_cmp}
use Rattle.rv_collide.specs.Entries.{places}
use Rattle.rv_collide.specs.Next.{next}
use Rattle.rv_collide.specs.declared.entry.Entry.{Entry}
use Rattle.rv_collide.specs.declared.entry.Entry.TheVariants.{Stepped, Paused, Resumed, Armed, Disarmed}
use Rattle.rv_hart.specs.State.{State}
use Rattle.rv_hart.specs.declared.access.Access.{Access}

-- A mention of an address, which arms it or disarms it.
pub record Mention : Type 0 where
  pub address : ℕ
  pub arms : Bool

-- what an entry at a place mentions; a pause takes the breakpoint at its hart's instruction
abbrev pub mention_by : State → List Entry → ℕ → Entry → Option Mention
mention_by start entries place (Armed address) = Some (record { address = address; arms = true })
mention_by start entries place (Disarmed address) = Some (record { address = address; arms = false })
mention_by start entries place (Paused hart slot) =
    option_map (λ (access : Access). record { address = access.pc; arms = false }) (next start entries place hart)
mention_by start entries place (Stepped hart) = None
mention_by start entries place (Resumed hart) = None

unfoldable pub mention_at : State → List Entry → ℕ → Option Mention
mention_at start entries place = option_and_then (mention_by start entries place) (slice_get entries place)

-- the mentions of a list, place by place
unfoldable pub mentions : State → List Entry → List (Option Mention)
mentions start entries = map (mention_at start entries) (places entries)

abbrev pub is_of : ℕ → Option Mention → Bool
is_of address mention = option_map_or (λ (m : Mention). m.address == address) mention false

-- the addresses that are armed and not mentioned again
unfoldable pub last_armed : List (Option Mention) → List ℕ
last_armed [] = []
last_armed (None ∷ later) = last_armed later
last_armed (Some m ∷ later) = if m.arms && not (list_any (is_of m.address) later) then m.address ∷ last_armed later else last_armed later

-- the addresses that are armed at a list's end
unfoldable pub armed : State → List Entry → FinSet nat_cmp
armed start entries = from_list (last_armed (mentions start entries))

-- how many times an address was armed
abbrev pub arms : Entry → Bool
arms (Armed address) = true
arms (Disarmed address) = false
arms (Paused hart slot) = false
arms (Stepped hart) = false
arms (Resumed hart) = false
