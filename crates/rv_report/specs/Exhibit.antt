-- A report as a plain list of hart steps.
use Rattle.std.specs.Prelude.{◌≡◌, ◌≢◌, ℕ, ◌+◌, ◌<◌, ◌≤◌, ◌&&◌, Bool, false, ⊤, IsTrue, Some, List, [], ◌∷◌, ◌++◌, length, slice_get, take}
use Rattle.std.specs.Option.{option_map_or}
use Rattle.rv_collide.specs.Answers.{pause_of}
use Rattle.rv_collide.specs.Entries.{steps}
use Rattle.rv_collide.specs.First.{first}
use Rattle.rv_collide.specs.Forced.{Setting}
use Rattle.rv_collide.specs.Legal.{IsLegal}
use Rattle.rv_collide.specs.Made.{made}
use Rattle.rv_collide.specs.Replays.{IsFirstFault}
use Rattle.rv_collide.specs.StateAt.{state_at}
use Rattle.rv_collide.specs.Verdict.{endings}
use Rattle.rv_collide.specs.declared.ending.Ending.{Ending}
use Rattle.rv_collide.specs.declared.ending.Verdict.{Verdict}
use Rattle.rv_collide.specs.declared.ending.Verdict.TheVariants.{Hit, Changed, Quiet}
use Rattle.rv_collide.specs.declared.entry.Entry.{Entry}
use Rattle.rv_hart.specs.Conflict.{meets}
use Rattle.rv_hart.specs.State.{State}
use Rattle.rv_hart.specs.declared.access.Access.{Access}
use Rattle.rv_memory.specs.Memory.{load}
use Rattle.rv_report.specs.declared.exhibit.Exhibit.{Exhibit}
use Rattle.rv_report.specs.declared.exhibit.ExhibitFault.{ExhibitFault}
use Rattle.rv_report.specs.declared.exhibit.ExhibitFault.TheVariants as fault

-- ---- the other hart's access

-- an access writes, and its bytes meet those of the paused access
abbrev pub writes_over : Access → Access → Bool
writes_over paused access = access.write && meets paused access

-- the step at a place made such an access
unfoldable pub stores_at : State → List Entry → Access → ℕ → Bool
stores_at start entries paused place = option_map_or (writes_over paused) (made start entries place) false

-- the last place within the pause of an ending where a step did
pub record IsLastStore (start : State) (entries : List Entry) (told : Ending) (place : ℕ) : Type 0 where
  pub after : told.paused_at < place
  pub before : place < told.resumed_at
  pub stores : IsTrue (stores_at start entries told.access place)
  pub last : (later : ℕ) → place < later → later < told.resumed_at → IsTrue (stores_at start entries told.access later) → ⊥

-- The place of the access that a report names beside the paused one: of a Hit the first that conflicts, of a Changed
-- the last that writes the bytes. A Quiet ending is no report.
abbrev pub IsOther : State → List Entry → Ending → Verdict → ℕ → Type 0
IsOther start entries told (Hit seen) place = first start entries (pause_of told) ≡ Some place
IsOther start entries told Changed place = IsLastStore start entries told place
IsOther start entries told Quiet place = ⊥

-- Ending n of the list is a report, and the access beside the paused one was made at the place.
pub record IsReport (start : State) (entries : List Entry) (n : ℕ) (told : Ending) (place : ℕ) : Type 0 where
  pub is_ending : slice_get (endings start entries) n ≡ Some told
  pub is_other : IsOther start entries told told.verdict place

-- ---- the list of steps

-- the four bytes from an address on at a place, as a little-endian number
unfoldable pub word_at : State → List Entry → ℕ → ℕ → ℕ
word_at start entries place address = option_map_or (λ (s : State). load s.memory address 4) (state_at start entries place) 0

-- the word of the paused instruction, at a place
abbrev pub paused_word : State → List Entry → Ending → ℕ → ℕ
paused_word start entries told place = word_at start entries place told.access.pc

-- the harts of all steps up to the one at a place, with it, and then the paused hart
unfoldable pub harts_to : List Entry → ℕ → ℕ → List ℕ
harts_to entries place paused = steps (take (place + 1) entries) ++ paused ∷ []

-- The exhibit of ending n of a legal list, a report: the steps up to the other hart's access, then one of the paused
-- hart, which still stands at the same word; with both accesses.
pub record IsExhibit (setting : Setting) (entries : List Entry) (n : ℕ) (exhibit : Exhibit) : Type 0 where
  pub legal : IsLegal setting entries
  pub told : Ending
  pub place : ℕ
  pub report : IsReport setting.start entries n told place
  pub same_word : paused_word setting.start entries told told.paused_at ≡ paused_word setting.start entries told (place + 1)
  pub harts_are : exhibit.harts.items ≡ harts_to entries place told.hart
  pub first_is : made setting.start entries place ≡ Some exhibit.first
  pub second_is : exhibit.second ≡ told.access

-- ---- why there is none

-- the list is legal, and has no ending n
pub record HasNoEnding (setting : Setting) (entries : List Entry) (n : ℕ) : Type 0 where
  pub legal : IsLegal setting entries
  pub past : length (endings setting.start entries) ≤ n

-- the list is legal, and its ending n is Quiet
pub record IsNoReport (setting : Setting) (entries : List Entry) (n : ℕ) : Type 0 where
  pub legal : IsLegal setting entries
  pub told : Ending
  pub is_ending : slice_get (endings setting.start entries) n ≡ Some told
  pub quiet : told.verdict ≡ Quiet

-- The list is legal and its ending n a report, but at the other hart's access the word of the paused instruction is
-- another than at the pause.
pub record IsTextChanged (setting : Setting) (entries : List Entry) (n : ℕ) : Type 0 where
  pub legal : IsLegal setting entries
  pub told : Ending
  pub place : ℕ
  pub report : IsReport setting.start entries n told place
  pub other_word : paused_word setting.start entries told told.paused_at ≢ paused_word setting.start entries told (place + 1)

-- why no exhibit is answered; where memory was refused, nothing is said
abbrev pub IsExhibitFault : Setting → List Entry → ℕ → ExhibitFault → Type 0
IsExhibitFault setting entries n fault.NoEnding = HasNoEnding setting entries n
IsExhibitFault setting entries n fault.NotReport = IsNoReport setting entries n
IsExhibitFault setting entries n fault.TextChanged = IsTextChanged setting entries n
IsExhibitFault setting entries n fault.NoMemory = ⊤
IsExhibitFault setting entries n (fault.Replay place why) = IsFirstFault setting entries place why

-- ---- laws

-- The same exhibit: the same list, and the same two accesses.
pub record IsSame (one other : Exhibit) : Type 0 where
  pub harts : one.harts.items ≡ other.harts.items
  pub first : one.first ≡ other.first
  pub second : one.second ≡ other.second

-- Of an ending there is one exhibit at most.
abbrev pub OneExhibit : Type 0
OneExhibit =
    (setting : Setting) (entries : List Entry) (n : ℕ) (one other : Exhibit) → IsExhibit setting entries n one → IsExhibit setting entries n other → IsSame one other

-- Where a fault but want of memory is told, there is none: so a fault is told exactly where it is stated.
abbrev pub NoneOfAFault : Type 0
NoneOfAFault =
    (setting : Setting) (entries : List Entry) (n : ℕ) (exhibit : Exhibit) (why : ExhibitFault) → why ≢ fault.NoMemory → IsExhibitFault setting entries n why → IsExhibit setting entries n exhibit → ⊥

-- And no two faults are told of the same, memory aside.
abbrev pub OneFault : Type 0
OneFault =
    (setting : Setting) (entries : List Entry) (n : ℕ) (one other : ExhibitFault) → one ≢ fault.NoMemory → other ≢ fault.NoMemory → IsExhibitFault setting entries n one → IsExhibitFault setting entries n other → one ≡ other
