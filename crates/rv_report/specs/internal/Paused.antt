-- What is known of a report's ending, and what follows for its exhibit.
use Rattle.std.specs.Prelude.{◌≡◌, ℕ, ◌+◌, ◌<◌, IsTrue, if◌then◌else◌, Option, Some, None, List, [], ◌∷◌, ◌++◌}
use Rattle.rv_collide.specs.Forced.{Setting}
use Rattle.rv_collide.specs.Legal.{IsLegal}
use Rattle.rv_collide.specs.Made.{made}
use Rattle.rv_collide.specs.declared.ending.Ending.{Ending}
use Rattle.rv_collide.specs.declared.entry.Entry.{Entry}
use Rattle.rv_collide.specs.declared.entry.Entry.TheVariants.{Stepped, Paused, Resumed, Armed, Disarmed}
use Rattle.rv_hart.specs.State.{State}
use Rattle.rv_hart.specs.declared.access.Access.{Access}
use Rattle.rv_report.specs.Exhibit.{IsOther, harts_to, paused_word, stores_at, writes_over}
use Rattle.rv_report.specs.OfPause.{IsOfPause}
use Rattle.rv_report.specs.SideBySide.{StandSideBySide}
use Rattle.rv_report.specs.declared.exhibiting.Other.{Other}

-- the other hart's access, and its place
pub record IsOtherAccess (start : State) (entries : List Entry) (told : Ending) (other : Other) : Type 0 where
  pub at : IsOther start entries told told.verdict other.place
  pub did : made start entries other.place ≡ Some other.access
  pub before : other.place < told.resumed_at

-- the last access that writes over the paused one, of those after the pause and before a place; or there was none
pub record IsLastBefore (start : State) (entries : List Entry) (told : Ending) (until : ℕ) (other : Other) : Type 0 where
  pub after : told.paused_at < other.place
  pub before : other.place < until
  pub stores : IsTrue (stores_at start entries told.access other.place)
  pub last : (later : ℕ) → other.place < later → later < until → IsTrue (stores_at start entries told.access later) → ⊥
  pub did : made start entries other.place ≡ Some other.access

abbrev pub LastBefore : State → List Entry → Ending → ℕ → Option Other → Type 0
LastBefore start entries told until None = (at : ℕ) → told.paused_at < at → at < until → IsTrue (stores_at start entries told.access at) → ⊥
LastBefore start entries told until (Some other) = IsLastBefore start entries told until other

-- the last one when one more place is passed, where a step made the access, or none did
abbrev pub last_after : Access → Option Other → ℕ → Option Access → Option Other
last_after paused last place None = last
last_after paused last place (Some access) = if writes_over paused access then Some (record { place = place; access = access }) else last

-- the harts with that of an entry, if it is a step
abbrev pub with_step : List ℕ → Entry → List ℕ
with_step harts (Stepped hart) = harts ++ hart ∷ []
with_step harts (Paused hart slot) = harts
with_step harts (Resumed hart) = harts
with_step harts (Armed address) = harts
with_step harts (Disarmed address) = harts

-- an exhibit's list ends in the two accesses
abbrev pub ExhibitsStandSideBySide : Type 0
ExhibitsStandSideBySide =
    (setting : Setting) (entries : List Entry) (told : Ending) (other : Other) → IsLegal setting entries → IsOfPause setting.start entries told → IsOtherAccess setting.start entries told other → paused_word setting.start entries told told.paused_at ≡ paused_word setting.start entries told (other.place + 1) → StandSideBySide setting.start (harts_to entries other.place told.hart) other.access told.access
