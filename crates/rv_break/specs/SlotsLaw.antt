-- A data breakpoint holds the first access since its claim that another hart made and that conflicts.
use Rattle.std.specs.Prelude.{◌≡◌, ℕ, ◌==◌, Bool, true, not, Option, Some, None, List, fold, find, filter_map, slice_get, slice_set}
use Rattle.std.specs.List.{list_all}
use Rattle.std.specs.Option.{option_or}
use Rattle.rv_break.specs.Slots.{Slots, is_for, seen_at, slots_after}
use Rattle.rv_break.specs.declared.claim.Claim.{Claim}
use Rattle.rv_break.specs.declared.claim.Seen.{Seen}

-- What may be done to the data breakpoints: all are shown an access, or the one of a number is claimed or freed.
pub data Change : Type 0 where
  Shown : Seen → Change
  Set : ℕ → Option Claim → Change

abbrev pub change : Slots → Change → Slots
change slots (Shown seen) = slots_after seen slots
change slots (Set slot held) = slice_set slots slot held

-- the one of the number is neither claimed nor freed
abbrev pub leaves : ℕ → Change → Bool
leaves slot (Shown seen) = true
leaves slot (Set other held) = not (other == slot)

-- the access that is shown
abbrev pub shown : Change → Option Seen
shown (Shown seen) = Some seen
shown (Set slot held) = None

-- A claim among others holds what it has seen, else the first of the accesses since that is for it, whatever was
-- done to the others.
abbrev pub FirstIsSeen : Type 0
FirstIsSeen =
    (slots : Slots) (slot : ℕ) (claim : Claim) (since : List Change) → slice_get slots slot ≡ Some (Some claim) → list_all (leaves slot) since ≡ true → seen_at (fold change slots since) slot ≡ option_or claim.seen (find (is_for claim) (filter_map shown since))
