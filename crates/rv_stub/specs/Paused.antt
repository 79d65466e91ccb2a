-- How a hart is paused at a place of a run, and what is told of it.
use Rattle.std.specs.Prelude.{ℕ, ◌==◌, zero, suc, if◌then◌else◌, Option, Some, None, option_and_then, option_map, List, ◌++◌, codes, slice_get}
use Rattle.std.specs.Option.{option_map_or}
use Rattle.rv_collide.specs.Grammar.{slot_text}
use Rattle.rv_collide.specs.StateAt.{state_at}
use Rattle.rv_collide.specs.declared.entry.Entry.{Entry}
use Rattle.rv_collide.specs.declared.entry.Entry.TheVariants as entry
use Rattle.rv_debug.specs.Placed.{Placed, setting}
use Rattle.rv_hart.specs.NextAccess.{next_access}
use Rattle.rv_hart.specs.State.{State}
use Rattle.rv_hart.specs.Texts.{access_text, front_text, status_text}
use Rattle.rv_hart.specs.declared.access.Access.{Access}
use Rattle.rv_hart.specs.declared.hart.Hart.{Hart}
use Rattle.rv_hart.specs.declared.hart.Status.{Status}
use Rattle.rv_stub.specs.declared.state.paused.Began.{Began}
use Rattle.rv_stub.specs.declared.state.paused.Pause.{Pause}

-- what the entry at a place makes of a hart's pause
abbrev pub turned : ℕ → ℕ → Entry → Option Began → Option Began
turned hart place (entry.Paused other slot) before = if other == hart then Some (record { place = place; slot = slot }) else before
turned hart place (entry.Resumed other) before = if other == hart then None else before
turned hart place (entry.Stepped other) before = before
turned hart place (entry.Armed address) before = before
turned hart place (entry.Disarmed address) before = before

-- The pause in which a hart stands at a place: by the last of the entries before the place that pauses or resumes it.
abbrev pub pause_before : List Entry → ℕ → ℕ → Option Began
pause_before entries hart zero = None
pause_before entries hart (suc place) =
    option_map_or (λ entry. turned hart place entry (pause_before entries hart place)) (slice_get entries place) (pause_before entries hart place)

-- the access that the hart would have made where its pause began
abbrev pub paused_access : Placed → ℕ → Began → Option Access
paused_access p h began =
    option_and_then (λ (s : State). option_and_then (λ (hart : Hart). next_access s h) (slice_get s.harts h)) (state_at (setting p).start p.entries began.place)

-- `paused at ACCESS slot S`; S is `-` where the pause is unwatched
abbrev pub paused_text : Option ℕ → Access → List ℕ
paused_text slot access = codes "paused at " ++ (access_text access ++ (codes " slot " ++ slot_text slot))

-- the slot of the pause in which a hart stands, and its access there; none where it is not paused
abbrev pub paused_by : Began → Access → Pause
paused_by began access = record { slot = began.slot; access = access }

abbrev pub pause_of : Placed → ℕ → Option Pause
pause_of p h =
    option_and_then (λ (began : Began). option_map (paused_by began) (paused_access p h began)) (pause_before p.entries h p.place)

-- how a hart stands, the first that holds: it is paused, it runs, or it is at its end
abbrev pub how_text : Option Pause → ℕ → Status → List ℕ
how_text None h status = front_text h ++ status_text status
how_text (Some pause) h status = front_text h ++ paused_text pause.slot pause.access

abbrev pub standing_text : Placed → ℕ → Hart → List ℕ
standing_text p h hart = how_text (pause_of p h) h hart.status
