-- What a common step comes to.
use Rattle.std.specs.Prelude.{◌≡◌, ℕ, false, true, Option, Some, None}
use Rattle.rv_hart.specs.NextAccess.{next_plain}
use Rattle.rv_hart.specs.State.{State}
use Rattle.rv_hart.specs.declared.access.Access.{Access}
use Rattle.rv_hart.specs.declared.access.Common.{Common}
use Rattle.rv_hart.specs.declared.access.Common.TheVariants.{Untaken, Silent, Accessed}
use Rattle.rv_hart.specs.declared.access.Event.{Event}
use Rattle.rv_hart.specs.declared.access.Event.TheVariants.{Moved}
use Rattle.rv_hart.specs.declared.access.Noted.{Noted}

-- the event of a common step, with the access that was noted; none where none was made
abbrev pub event_of_common : Common → Access → Option Event
event_of_common Untaken access = None
event_of_common Silent access = Some (Moved None)
event_of_common Accessed access = Some (Moved (Some access))

-- Where a step of hart h notes that a plain access was kept back, none was made, and it is the access that the hart would make.
abbrev pub NotesKept : State → ℕ → Common → Noted → Noted → Type 0
NotesKept state h common before after =
    before.is_kept_back ≡ false → after.is_kept_back ≡ true → (common ≡ Untaken) × (next_plain state h ≡ Some after.access)
