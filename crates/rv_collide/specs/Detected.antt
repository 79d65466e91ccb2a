-- What the calls of a detector answer.
use Rattle.std.specs.Prelude.{◌≡◌, ◌==◌, [], ℕ, ◌+◌, ◌≤◌, true, false, ◌⊎◌, Bool, IsTrue, IsSome, Some, is_some, IsSomeAnd, List, length, Ok, Err}
use Rattle.rv_collide.specs.Answers.{pause_of}
use Rattle.rv_collide.specs.Entries.{steps}
use Rattle.rv_collide.specs.Forced.{Call, Turn, Resume, forced, least_free}
use Rattle.rv_collide.specs.Laws.{Reported}
use Rattle.rv_collide.specs.Legal.{IsLegal}
use Rattle.rv_collide.specs.Pause.{opening_of, openings}
use Rattle.rv_collide.specs.Plan.{most_entries}
use Rattle.rv_collide.specs.StateAt.{state_at}
use Rattle.rv_collide.specs.Begun.{Begun, added, setting_of}
use Rattle.rv_collide.specs.Verdict.{ending_at}
use Rattle.rv_collide.specs.declared.collider.Turned.{Turned}
use Rattle.rv_collide.specs.declared.collider.Turned.TheVariants as turned
use Rattle.rv_collide.specs.declared.ending.Ending.{Ending}
use Rattle.rv_collide.specs.declared.ending.Verdict.TheVariants.{Hit}
use Rattle.rv_collide.specs.declared.entry.Entry.{Entry}
use Rattle.rv_collide.specs.declared.entry.Entry.TheVariants.{Stepped, Paused, Resumed}
use Rattle.rv_collide.specs.declared.refused.Refused.{Refused}
use Rattle.rv_collide.specs.declared.refused.Refused.TheVariants.{NoMemory}
use Rattle.std.specs.FinSet.{contains, len}
use Rattle.rv_collide.specs.Armed.{armed}
use Rattle.rv_collide.specs.Next.{next, plain, runs_at}
use Rattle.rv_break.specs.declared.claim.Seen.{Seen}
use Rattle.rv_hart.specs.Fetched.{IsWordOf}
use Rattle.rv_hart.specs.State.{State}
use Rattle.rv_hart.specs.declared.access.Access.{Access}
use Rattle.rv_hart.specs.Step.{step_of}
use Rattle.rv_hart.specs.declared.access.Event.{Event}

-- What holds of each detector: its schedule is legal, no longer than its plan allows, and has a state at its end, of as many
-- harts as the plan has; there no more bytes are printed than were where it began and its harts have made steps; and each
-- ending whose verdict is a hit reports a conflicting access of another hart within its pause.
pub record AreFacts (c : Begun) : Type 0 where
  pub legal : IsLegal (setting_of c) c.entries
  pub few : length c.entries ≤ most_entries c.plan
  pub state : IsSome (state_at c.start c.entries (length c.entries))
  pub harts : (s : State) → state_at c.start c.entries (length c.entries) ≡ Some s → length s.harts ≡ c.plan.harts
  pub printed : (s : State) → state_at c.start c.entries (length c.entries) ≡ Some s → length s.output ≤ length c.start.output + length (steps c.entries)
  pub reports : (place : ℕ) (told : Ending) (seen : Seen) → ending_at c.start c.entries place ≡ Some told → told.verdict ≡ Hit seen → Reported c.start c.entries (pause_of told) told.access seen

-- the call is accepted: it adds the entry that it is forced to add, and nothing else
pub record Adds (old new : Begun) (call : Call) (entry : Entry) : Type 0 where
  pub is_forced : forced (setting_of old) old.entries call ≡ Ok entry
  pub is_added : new ≡ added old entry

-- the step of a hart at the end of the schedule is this event
pub record IsEvent (c : Begun) (h : ℕ) (event : Event) : Type 0 where
  pub state : State
  pub after : State
  pub reached : state_at (setting_of c).start c.entries (length c.entries) ≡ Some state
  pub step : step_of state h ≡ Some (event, after)

-- this is the word at a hart's pc at the end of the schedule
pub record IsWord (c : Begun) (h word : ℕ) : Type 0 where
  pub state : State
  pub reached : state_at (setting_of c).start c.entries (length c.entries) ≡ Some state
  pub word_is : IsWordOf state h word

abbrev pub Turns : Begun → Begun → ℕ → Turned → Type 0
Turns old new h (turned.Stepped event) = Adds old new (Turn h) (Stepped h) × IsEvent old h event
Turns old new h (turned.Paused slot) = Adds old new (Turn h) (Paused h slot)

-- the hart makes a step, and runs after it
pub record StepsOn (old new : Begun) (h : ℕ) : Type 0 where
  pub event : Event
  pub turns : Turns old new h (turned.Stepped event)
  pub runs : runs_at (setting_of new).start new.entries (length new.entries) h ≡ true

-- no pause is open and no address armed
pub record IsFree (c : Begun) : Type 0 where
  pub unwatched : openings c.entries ≡ []
  pub unarmed : (len (armed (setting_of c).start c.entries) == 0) ≡ true

-- a turn is refused as it is forced to be, or for want of memory, which comes last
abbrev pub IsRefusedTurn : Begun → ℕ → Refused → Bool → Type 0
IsRefusedTurn c h fault can_refuse =
    (forced (setting_of c) c.entries (Turn h) ≡ Err fault) ⊎ ((fault ≡ NoMemory) × IsTrue can_refuse × (forced (setting_of c) c.entries (Turn h) ≡ Ok (Stepped h)))

-- a resumption answers the ending of its pause
pub record Resumes (old new : Begun) (h : ℕ) (told : Ending) : Type 0 where
  pub adds : Adds old new (Resume h) (Resumed h)
  pub ending : ending_at (setting_of new).start new.entries (length old.entries) ≡ Some told

-- the bytes printed
abbrev pub IsOutput : Begun → List ℕ → Type 0
IsOutput c output = IsSomeAnd (state_at (setting_of c).start c.entries (length c.entries)) (λ s. output ≡ s.output)

-- the hart would make the access, a plain one, at an armed address
pub record IsArmedAccess (c : Begun) (h : ℕ) (access : Access) : Type 0 where
  pub is_plain : plain (setting_of c).start c.entries (length c.entries) h ≡ Some access
  pub is_next : next (setting_of c).start c.entries (length c.entries) h ≡ Some access
  pub is_armed : contains (armed (setting_of c).start c.entries) access.pc ≡ true

-- the hart's turn was its pause, and it is paused now; or it is not paused, and nothing has changed
pub record MayPause (old new : Begun) (h : ℕ) : Type 0 where
  pub paused : is_some (opening_of new.entries h) ≡ true → Adds old new (Turn h) (Paused h (least_free old.plan.slots old.entries))
  pub still : is_some (opening_of new.entries h) ≡ false → new ≡ old
