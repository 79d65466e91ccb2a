-- A list behind a prefix: what a run that went on from the middle of another is, told from that other's start.
use Rattle.std.specs.Prelude.{◌≡◌, ℕ, ◌+◌, ◌≤◌, ◌==◌, max, true, Some, List, [], ◌∷◌, ◌++◌, length, map, count_by}
use Rattle.std.specs.FinSet.{len}
use Rattle.rv_break.specs.declared.claim.Seen.{Seen}
use Rattle.rv_collide.specs.Armed.{armed, arms}
use Rattle.rv_collide.specs.Begun.{Begun}
use Rattle.rv_collide.specs.Entries.{steps}
use Rattle.rv_collide.specs.Forced.{Setting}
use Rattle.rv_collide.specs.Legal.{IsLegal}
use Rattle.rv_collide.specs.Made.{made}
use Rattle.rv_collide.specs.Next.{next}
use Rattle.rv_collide.specs.Pause.{Opening, openings}
use Rattle.rv_collide.specs.Plan.{IsPlan, Numbers}
use Rattle.rv_collide.specs.StateAt.{state_at}
use Rattle.rv_collide.specs.Stored.{Stored, setting_of}
use Rattle.rv_collide.specs.Verdict.{endings}
use Rattle.rv_collide.specs.declared.ending.Ending.{Ending}
use Rattle.rv_collide.specs.declared.ending.Verdict.{Verdict}
use Rattle.rv_collide.specs.declared.ending.Verdict.TheVariants.{Hit, Changed, Quiet}
use Rattle.rv_collide.specs.declared.entry.Entry.{Entry}
use Rattle.rv_collide.specs.declared.entry.Entry.TheVariants.{Stepped, Paused, Resumed, Armed, Disarmed}
use Rattle.rv_hart.specs.State.{State}

-- ---- places that are greater by the length of what stands before

abbrev pub seen_later : ℕ → Seen → Seen
seen_later by seen = record { place = by + seen.place; hart = seen.hart; access = seen.access }

abbrev pub verdict_later : ℕ → Verdict → Verdict
verdict_later by (Hit seen) = Hit (seen_later by seen)
verdict_later by Changed = Changed
verdict_later by Quiet = Quiet

abbrev pub opening_later : ℕ → Opening → Opening
opening_later by o = record { hart = o.hart; slot = o.slot; place = by + o.place }

abbrev pub ending_later : ℕ → Ending → Ending
ending_later by told = record {
  hart = told.hart;
  paused_at = by + told.paused_at;
  resumed_at = by + told.resumed_at;
  access = told.access;
  slot = told.slot;
  verdict = verdict_later by told.verdict;
  old = told.old;
  new = told.new;
}

-- ---- what is joined

-- The list is legal and leads to the state. At its end no pause is open and no address armed, so one may go on from there.
pub record IsPrefix (setting : Setting) (prefix : List Entry) (end : State) : Type 0 where
  pub legal : IsLegal setting prefix
  pub leads : state_at setting.start prefix (length prefix) ≡ Some end
  pub unwatched : openings prefix ≡ []
  pub unarmed : (len (armed setting.start prefix) == 0) ≡ true

-- The whole behind the prefix is what the own list is from the state at the prefix's end, at places that are greater by the
-- prefix's length. The prefix's endings stay, and come first.
pub record IsJoined (start : State) (prefix own : List Entry) (end : State) : Type 0 where
  pub states : (place : ℕ) → state_at start (prefix ++ own) (length prefix + place) ≡ state_at end own place
  pub would : (place hart : ℕ) → next start (prefix ++ own) (length prefix + place) hart ≡ next end own place hart
  pub did : (place : ℕ) → made start (prefix ++ own) (length prefix + place) ≡ made end own place
  pub paused : openings (prefix ++ own) ≡ map (opening_later (length prefix)) (openings own)
  pub armed_are : armed start (prefix ++ own) ≡ armed end own
  pub endings_are : endings start (prefix ++ own) ≡ endings start prefix ++ map (ending_later (length prefix)) (endings end own)

abbrev pub ListsJoin : Type 0
ListsJoin = (setting : Setting) (prefix own : List Entry) (end : State) → IsPrefix setting prefix end → IsJoined setting.start prefix own end

-- ---- plans

-- How many steps a plan must have for a list: those that it makes, and one more where it pauses a hart and no step comes
-- after, since a turn that pauses its hart asks for a step that is left.
unfoldable pub steps_needed : List Entry → ℕ
steps_needed [] = 0
steps_needed (Stepped hart ∷ later) = 1 + steps_needed later
steps_needed (Paused hart slot ∷ later) = max 1 (steps_needed later)
steps_needed (Resumed hart ∷ later) = steps_needed later
steps_needed (Armed address ∷ later) = steps_needed later
steps_needed (Disarmed address ∷ later) = steps_needed later

-- a plan of the same harts and slots, with room for the list
pub record IsEnough (plan other : Numbers) (entries : List Entry) : Type 0 where
  pub harts : plan.harts ≡ other.harts
  pub slots : plan.slots ≡ other.slots
  pub room : steps_needed entries ≤ other.steps
  pub arms_made : count_by arms entries ≤ other.arms

-- A list that is legal under a plan is legal under each plan that has room for it, with fewer steps and arms too.
abbrev pub RoomIsEnough : Type 0
RoomIsEnough =
    (start : State) (plan other : Numbers) (entries : List Entry) → IsLegal (record { start = start; plan = plan }) entries → IsEnough plan other entries → IsLegal (record { start = start; plan = other }) entries

-- A list that is legal from the state at a prefix's end is, behind that prefix, legal from the prefix's start.
abbrev pub JoinedIsLegal : Type 0
JoinedIsLegal =
    (start end : State) (before after whole : Numbers) (prefix own : List Entry) → IsPrefix (record { start = start; plan = before }) prefix end → IsLegal (record { start = end; plan = after }) own → IsEnough before whole (prefix ++ own) → IsEnough after whole (prefix ++ own) → IsLegal (record { start = start; plan = whole }) (prefix ++ own)

-- What a legal list needs is no more than its plan has.
pub record NeedsNoMore (plan : Numbers) (entries : List Entry) : Type 0 where
  pub steps_of : steps_needed entries ≤ plan.steps
  pub arms_of : count_by arms entries ≤ plan.arms

abbrev pub LegalNeedsNoMore : Type 0
LegalNeedsNoMore =
    (start : State) (plan : Numbers) (entries : List Entry) → IsLegal (record { start = start; plan = plan }) entries → NeedsNoMore plan entries

-- the plan with just the steps and arms that a list needs; at least one step, as each plan has
abbrev pub plan_for : Numbers → List Entry → Numbers
plan_for plan entries = record plan { steps = max 1 (steps_needed entries); arms = count_by arms entries }

-- A legal list stays so under the plan that it is given in the end, which has just what the list needs.
pub record IsNarrowed (start : State) (plan narrow : Numbers) (entries : List Entry) : Type 0 where
  pub legal : IsLegal (record { start = start; plan = narrow }) entries
  pub plan_is : narrow ≡ plan_for plan entries

-- ---- what a run leaves that went on from a fork

-- Where a run goes on: the start and the plan of the run before, and the state that its prefix leads to.
pub record Fork : Type 0 where
  pub start : State
  pub plan : Numbers
  pub end : State

-- A detector that has made no call yet, at the state that a core is at.
pub record IsForked (core : Stored) (plan : Numbers) (fork : Begun) : Type 0 where
  pub at : state_at (setting_of core).start core.entries (length core.entries) ≡ Some fork.start
  pub plan_is : fork.plan ≡ plan
  pub none_yet : fork.entries ≡ []

-- The run made its own entries behind the prefix, under a plan with no more than what was left of steps and arms.
pub record GoesOnFrom (fork : Fork) (prefix : List Entry) (told : List Ending) (after : Numbers) (own : List Entry) (ended : List Ending) : Type 0 where
  pub in_range : IsPlan fork.plan
  pub is_prefix : IsPrefix (record { start = fork.start; plan = fork.plan }) prefix fork.end
  pub told_are : told ≡ endings fork.start prefix
  pub legal : IsLegal (record { start = fork.end; plan = after }) own
  pub ended_are : ended ≡ endings fork.end own
  pub harts : after.harts ≡ fork.plan.harts
  pub slots : after.slots ≡ fork.plan.slots
  pub steps_left : length (steps prefix) + after.steps ≤ fork.plan.steps
  pub arms_left : count_by arms prefix + after.arms ≤ fork.plan.arms

-- The whole is a legal list from the start of the run before, with its endings, under a plan that has just the steps and arms
-- that it needs.
pub record IsWhole (fork : Fork) (after whole : Numbers) (entries : List Entry) (told : List Ending) : Type 0 where
  pub legal : IsLegal (record { start = fork.start; plan = whole }) entries
  pub told_are : told ≡ endings fork.start entries
  pub plan_is : whole ≡ plan_for after entries
