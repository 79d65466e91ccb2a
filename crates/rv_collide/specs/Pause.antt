-- The pauses of a list.
use Rattle.std.specs.Prelude.{ℕ, ◌+◌, ◌==◌, Bool, false, Option, Some, None, option_map, option_and_then, if◌then◌else◌, List, [], ◌∷◌, ◌++◌, slice_get, take, find}
use Rattle.std.specs.List.{list_any}
use Rattle.rv_collide.specs.Entries.{between}
use Rattle.rv_collide.specs.declared.entry.Entry.{Entry}
use Rattle.rv_collide.specs.declared.entry.Entry.TheVariants.{Stepped, Paused, Resumed, Armed, Disarmed}

-- A pause that has ended: its hart, the data breakpoint that watched it, if one did, and the places of its
-- two entries.
pub record Pause : Type 0 where
  pub hart : ℕ
  pub slot : Option ℕ
  pub paused_at : ℕ
  pub resumed_at : ℕ

-- A pause that is still open.
pub record Opening : Type 0 where
  pub hart : ℕ
  pub slot : Option ℕ
  pub place : ℕ

abbrev pub resumes : ℕ → Entry → Bool
resumes hart (Resumed other) = other == hart
resumes hart (Stepped other) = false
resumes hart (Paused other slot) = false
resumes hart (Armed address) = false
resumes hart (Disarmed address) = false

-- an entry that pauses a hart, which none of the later entries resumes
abbrev pub opened : ℕ → Entry → List Entry → List Opening
opened place (Paused hart slot) later =
    if list_any (resumes hart) later then [] else record { hart = hart; slot = slot; place = place } ∷ []
opened place (Stepped hart) later = []
opened place (Resumed hart) later = []
opened place (Armed address) later = []
opened place (Disarmed address) later = []

-- the open pauses of entries that stand from a place on
unfoldable pub openings_from : ℕ → List Entry → List Opening
openings_from place [] = []
openings_from place (entry ∷ later) = opened place entry later ++ openings_from (place + 1) later

-- the pauses that are open at a list's end, in the order of their places
unfoldable pub openings : List Entry → List Opening
openings entries = openings_from 0 entries

-- a hart's open pause
unfoldable pub opening_of : List Entry → ℕ → Option Opening
opening_of entries hart = find (λ (o : Opening). o.hart == hart) (openings entries)

-- the hart of the one open pause, where no other is open
abbrev pub only_hart : List Opening → Option ℕ
only_hart [] = None
only_hart (o ∷ []) = Some o.hart
only_hart (o ∷ other ∷ others) = None

-- the pause as it is if it ends at a place
abbrev pub ended : ℕ → Opening → Pause
ended place o = record { hart = o.hart; slot = o.slot; paused_at = o.place; resumed_at = place }

-- the places within a pause
unfoldable pub within : Pause → List ℕ
within pause = between pause.paused_at pause.resumed_at

abbrev pub resumed_hart : Entry → Option ℕ
resumed_hart (Resumed hart) = Some hart
resumed_hart (Stepped hart) = None
resumed_hart (Paused hart slot) = None
resumed_hart (Armed address) = None
resumed_hart (Disarmed address) = None

-- the pause that the entry at a place ends
unfoldable pub pause_ended : List Entry → ℕ → Option Pause
pause_ended entries place =
    option_and_then (λ hart. option_map (ended place) (opening_of (take place entries) hart)) (option_and_then resumed_hart (slice_get entries place))
