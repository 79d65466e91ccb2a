-- What the core keeps beside its stored schedule, and how that follows from it.
use Rattle.std.specs.Prelude.{◌≡◌, ℕ, ◌+◌, ◌-◌, ◌*◌, ◌<◌, ◌≤◌, ◌==◌, ◌⊎◌, Bool, true, false, Option, Some, None, option_map, option_and_then, IfSome, ⊤, List, [], ◌∷◌, map, length, count_by, find, slice_get, slice_set, Vec, vec_capacity}
use Rattle.std.specs.FinSet.{len}
use Rattle.std.specs.List.{list_any, range_with_len}
use Rattle.std.specs.Option.{option_map_or}
use Rattle.std.specs.declared.alloc.Global.{Global}
use Rattle.rv_break.specs.Breakpoints.{Breaks}
use Rattle.rv_break.specs.Slots.{Slots, slots_after}
use Rattle.rv_break.specs.declared.claim.Claim.{Claim}
use Rattle.rv_break.specs.declared.claim.Seen.{Seen}
use Rattle.rv_collide.specs.Armed.{armed, arms}
use Rattle.rv_collide.specs.Entries.{steps}
use Rattle.rv_collide.specs.First.{first, seen_at}
use Rattle.rv_collide.specs.Forced.{Setting}
use Rattle.rv_collide.specs.Legal.{IsLegal}
use Rattle.rv_collide.specs.Next.{next}
use Rattle.rv_collide.specs.Pause.{Opening, ended, openings}
use Rattle.rv_collide.specs.StateAt.{state_at}
use Rattle.rv_collide.specs.Begun.{Begun, setting_of}
use Rattle.rv_collide.specs.Verdict.{bytes_at, ending_at, endings}
use Rattle.rv_collide.specs.declared.ending.Ending.{Ending}
use Rattle.rv_collide.specs.declared.entry.Entry.{Entry}
use Rattle.rv_collide.specs.declared.open_pause.OpenPause.{OpenPause}
use Rattle.rv_hart.specs.State.{State, Guest}

-- ---- open pauses

abbrev pub opening : OpenPause → Opening
opening p = record { hart = p.hart; slot = p.slot; place = p.place }

-- what is kept of an open pause is what the schedule says of it; its slot is one of the plan's
pub record IsKept (slot_count : ℕ) (start : State) (entries : List Entry) (p : OpenPause) : Type 0 where
  pub before : p.place < length entries
  pub access : next start entries p.place p.hart ≡ Some p.access
  pub old : p.old ≡ bytes_at start entries p.place p.access
  pub within : IfSome p.slot (λ slot. slot < slot_count)

abbrev pub AreKept : ℕ → State → List Entry → List OpenPause → Type 0
AreKept slot_count start entries [] = ⊤
AreKept slot_count start entries (p ∷ ps) = IsKept slot_count start entries p × AreKept slot_count start entries ps

abbrev pub is_at : ℕ → Opening → Bool
is_at slot o = option_map_or (λ other. other == slot) o.slot false

abbrev pub is_in : Option ℕ → List Opening → Bool
is_in None os = false
is_in (Some slot) os = list_any (is_at slot) os

-- no two open pauses are of one hart, or watched by one slot
abbrev pub AreApart : List Opening → Type 0
AreApart [] = ⊤
AreApart (o ∷ os) = (list_any (λ (p : Opening). p.hart == o.hart) os ≡ false) × (is_in o.slot os ≡ false) × AreApart os

-- ---- slots

-- the claim that an open pause has made, with what it has seen so far
unfoldable pub claim_of : State → List Entry → Opening → Option Claim
claim_of start entries o =
    option_map (λ access. record { hart = o.hart; access = access; seen = option_and_then (seen_at start entries) (first start entries (ended (length entries) o)) })
    (next start entries o.place o.hart)

unfoldable pub slot_at : State → List Entry → ℕ → Option Claim
slot_at start entries slot = option_and_then (claim_of start entries) (find (is_at slot) (openings entries))

unfoldable pub slots_of : ℕ → State → List Entry → Slots
slots_of slot_count start entries = map (slot_at start entries) (range_with_len 0 slot_count)

-- the slots after what an entry shows them, if it shows them something
abbrev pub slots_seen : Option Seen → Slots → Slots
slots_seen None slots = slots
slots_seen (Some seen) slots = slots_after seen slots

-- the slots after the release of one, if one was claimed
abbrev pub slots_freed : Option ℕ → Slots → Slots
slots_freed None slots = slots
slots_freed (Some slot) slots = slice_set slots slot None

-- ---- the whole

-- how many entries and endings there are at most
pub record HasRoom (setting : Setting) (entries : List Entry) (told : ℕ) : Type 0 where
  pub steps_left : length (steps entries) ≤ setting.plan.steps
  pub arms_left : count_by arms entries ≤ setting.plan.arms
  pub few : length entries + 2 * len (armed setting.start entries) + length (openings entries) ≤ length (steps entries) + 3 * count_by arms entries
  pub few_endings : told + len (armed setting.start entries) + length (openings entries) ≤ count_by arms entries

pub record IsCore (setting : Setting) (entries : List Entry) (machine : Guest) (breaks : Breaks) (opened : List OpenPause) (told : List Ending) (steps_made arms_made : ℕ) : Type 0 where
  pub legal : IsLegal setting entries
  pub now : state_at setting.start entries (length entries) ≡ Some machine.state
  pub harts : length machine.state.harts ≡ setting.plan.harts
  pub limit : length setting.start.output + setting.plan.steps ≤ machine.limit
  pub output : length machine.state.output ≤ length setting.start.output + length (steps entries)
  pub counted : steps_made ≡ length (steps entries)
  pub arms_counted : arms_made ≡ count_by arms entries
  pub armed_are : breaks.armed ≡ armed setting.start entries
  pub slots_are : breaks.slots ≡ slots_of setting.plan.slots setting.start entries
  pub openings_are : map opening opened ≡ openings entries
  pub kept : AreKept setting.plan.slots setting.start entries opened
  pub apart : AreApart (openings entries)
  pub endings_are : told ≡ endings setting.start entries
  pub room : HasRoom setting entries (length told)

-- room for all that the plan allows
pub record IsRoomy (setting : Setting) (entries : Vec Entry Global) (opened : Vec OpenPause Global) (told : Vec Ending Global) : Type 0 where
  pub for_entries : setting.plan.steps + 4 * setting.plan.arms ≤ vec_capacity entries
  pub for_openings : setting.plan.arms ≤ vec_capacity opened
  pub for_endings : setting.plan.arms ≤ vec_capacity told

-- the plan's steps, where no pause is open and no address armed: up to so many each turn of a hart that runs is a
-- step which no claim is shown
abbrev pub IsUntil : ℕ → Breaks → List OpenPause → ℕ → Type 0
IsUntil most breaks opened until = (until ≡ 0) ⊎ ((until ≡ most) × (opened ≡ []) × ((len breaks.armed == 0) ≡ true))

-- the ending that the next entry made is the last one
pub record IsToldLast (old new : Begun) : Type 0 where
  pub some : 0 < length (endings (setting_of new).start new.entries)
  pub last : ending_at (setting_of new).start new.entries (length old.entries) ≡ slice_get (endings (setting_of new).start new.entries) (length (endings (setting_of new).start new.entries) - 1)
