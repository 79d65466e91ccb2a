-- The data breakpoints by number, what claims one, and what it holds after an access.
use Rattle.std.specs.Prelude.{ℕ, Bool, ◌==◌, ◌&&◌, not, is_none, if◌then◌else◌, Option, Some, None, option_and_then, option_map, IsSome, IsSomeAnd, List, map, position, slice_get}
use Rattle.rv_break.specs.declared.claim.Claim.{Claim}
use Rattle.rv_break.specs.declared.claim.Seen.{Seen}
use Rattle.rv_hart.specs.Conflict.{conflicts}

-- The data breakpoints by number: a claim each, or none where it is free.
abbrev pub Slots : Type 0
Slots = List (Option Claim)

-- the least number of a free one
abbrev pub free_slot : Slots → Option ℕ
free_slot slots = position is_none slots

-- the data breakpoint of the number is claimed
abbrev pub IsClaimed : Slots → ℕ → Type 0
IsClaimed slots slot = IsSomeAnd (slice_get slots slot) IsSome

-- a claim is for conflicting accesses of other harts
abbrev pub is_for : Claim → Seen → Bool
is_for claim seen = not (claim.hart == seen.hart) && conflicts claim.access seen.access

-- what a claim has seen after an access: the first that is for it
abbrev pub seen_after : Seen → Claim → Option Seen
seen_after seen claim = if is_none claim.seen && is_for claim seen then Some seen else claim.seen

abbrev pub claim_after : Seen → Claim → Claim
claim_after seen claim = record claim { seen = seen_after seen claim }

-- the data breakpoints after an access
abbrev pub slots_after : Seen → Slots → Slots
slots_after seen slots = map (option_map (claim_after seen)) slots

abbrev pub seen_by : Option Claim → Option Seen
seen_by None = None
seen_by (Some claim) = claim.seen

-- what the data breakpoint of the number has seen
abbrev pub seen_at : Slots → ℕ → Option Seen
seen_at slots slot = option_and_then seen_by (slice_get slots slot)
