-- What follows from the definitions, in a user's words.
use Rattle.std.specs.Prelude.{◌≡◌, ◌≢◌, ◌↔◌, ℕ, ◌<◌, ◌≤◌, IsSome, IsSomeAnd, Option, Some, List, length, map, filter_map, slice_get}
use Rattle.rv_break.specs.declared.claim.Seen.{Seen}
use Rattle.rv_collide.specs.Entries.{steps}
use Rattle.rv_collide.specs.First.{paused_access, seen_at}
use Rattle.rv_collide.specs.Forced.{Setting}
use Rattle.rv_collide.specs.Held.{Held}
use Rattle.rv_collide.specs.Legal.{IsLegal}
use Rattle.rv_collide.specs.Next.{next}
use Rattle.rv_collide.specs.Pause.{Pause, resumed_hart}
use Rattle.rv_collide.specs.StateAt.{state_at}
use Rattle.rv_collide.specs.Verdict.{ending_at, endings, verdict}
use Rattle.rv_collide.specs.declared.ending.Verdict.{Verdict}
use Rattle.rv_collide.specs.declared.ending.Verdict.TheVariants.{Hit}
use Rattle.rv_collide.specs.declared.entry.Entry.{Entry}
use Rattle.rv_collide.specs.declared.entry.Entry.TheVariants.{Paused, Resumed}
use Rattle.rv_hart.specs.Conflict.{Conflict}
use Rattle.rv_hart.specs.ReservationLaws.{reservation_at}
use Rattle.rv_hart.specs.State.{State, start}
use Rattle.rv_memory.specs.Extent.{Extent}
use Rattle.rv_hart.specs.declared.access.Access.{Access}

-- Pauses, resumptions and breakpoints change no register, byte or reservation: two lists with the same steps
-- lead to the same state.
abbrev pub SameStepsSameState : Type 0
SameStepsSameState = (start : State) (one other : List Entry) → steps one ≡ steps other → state_at start one (length one) ≡ state_at start other (length other)

-- What a report says: at a place within the pause another hart made an access that conflicts with the one
-- that the paused hart would have made.
pub record Reported (start : State) (entries : List Entry) (pause : Pause) (access : Access) (seen : Seen) : Type 0 where
  pub after : pause.paused_at < seen.place
  pub before : seen.place < pause.resumed_at
  pub others : pause.hart ≢ seen.hart
  pub did : seen_at start entries seen.place ≡ Some seen
  pub conflict : Conflict access seen.access

abbrev pub ReportsAreRaces : Type 0
ReportsAreRaces =
    (start : State) (entries : List Entry) (pause : Pause) (access : Access) (seen : Seen) → paused_access start entries pause ≡ Some access → verdict start entries pause access ≡ Hit seen → Reported start entries pause access seen

-- A report of the access, or of one that was made before it.
pub record Tells (told : Verdict) (seen : Seen) : Type 0 where
  pub first : Seen
  pub hit : told ≡ Hit first
  pub no_later : first.place ≤ seen.place

-- Of a pause that a data breakpoint watched no conflicting access is lost: where another hart made one within
-- it, it ends in a report.
abbrev pub ConflictsAreReported : Type 0
ConflictsAreReported =
    (start : State) (entries : List Entry) (pause : Pause) (access : Access) (slot : ℕ) (seen : Seen) → pause.slot ≡ Some slot → paused_access start entries pause ≡ Some access → Reported start entries pause access seen → Tells (verdict start entries pause access) seen

-- A legal list has a state at each of its places.
abbrev pub LegalHasStates : Type 0
LegalHasStates = (setting : Setting) (entries : List Entry) → IsLegal setting entries → (place : ℕ) → place ≤ length entries → IsSome (state_at setting.start entries place)

-- A hart holds a reservation at a place just where it is held by what was done before: in a run from the
-- image, whatever its pauses.
abbrev pub ReservationsAreHeld : Type 0
ReservationsAreHeld =
    (given : List Extent) (entry count : ℕ) (entries : List Entry) (place : ℕ) (s : State) → place ≤ length entries → state_at (start given entry count) entries place ≡ Some s → (hart address : ℕ) → (reservation_at s hart ≡ Some address) ↔ Held (start given entry count) entries place hart address

-- Of a legal list: where a hart is paused, it would have made an access.
abbrev pub PausesHaveAccesses : Type 0
PausesHaveAccesses =
    (setting : Setting) (entries : List Entry) → IsLegal setting entries → (place hart : ℕ) (slot : Option ℕ) → slice_get entries place ≡ Some (Paused hart slot) → IsSome (next setting.start entries place hart)

-- where a hart is resumed, a pause of it ends
abbrev pub ResumptionsHaveEndings : Type 0
ResumptionsHaveEndings =
    (setting : Setting) (entries : List Entry) → IsLegal setting entries → (place hart : ℕ) → slice_get entries place ≡ Some (Resumed hart) → IsSomeAnd (ending_at setting.start entries place) (λ told. told.hart ≡ hart)

-- and there is one ending for each resumption, in their order
abbrev pub OneEndingForEach : Type 0
OneEndingForEach =
    (setting : Setting) (entries : List Entry) → IsLegal setting entries → map (λ told. told.hart) (endings setting.start entries) ≡ filter_map resumed_hart entries
