-- What holds of each ending of a legal list.
use Rattle.std.specs.Prelude.{◌≡◌, ◌≢◌, ℕ, ◌<◌, ◌≤◌, Some, List, length, slice_get}
use Rattle.rv_break.specs.declared.claim.Seen.{Seen}
use Rattle.rv_collide.specs.Answers.{pause_of}
use Rattle.rv_collide.specs.ChangedLaws.{Overwritten}
use Rattle.rv_collide.specs.Entries.{stepped_at}
use Rattle.rv_collide.specs.First.{first}
use Rattle.rv_collide.specs.Forced.{Setting}
use Rattle.rv_collide.specs.Laws.{Reported}
use Rattle.rv_collide.specs.Legal.{IsLegal}
use Rattle.rv_collide.specs.Next.{plain}
use Rattle.rv_collide.specs.Verdict.{endings}
use Rattle.rv_collide.specs.declared.ending.Ending.{Ending}
use Rattle.rv_collide.specs.declared.ending.Verdict.TheVariants.{Hit, Changed}
use Rattle.rv_collide.specs.declared.entry.Entry.{Entry}
use Rattle.rv_hart.specs.State.{State}

-- It is of a pause of the list: that has ended within it, its hart stood before a plain access and made no step; of a hit
-- the access that it names is the first that conflicts, and of a change another hart wrote one of the bytes.
pub record IsOfPause (start : State) (entries : List Entry) (told : Ending) : Type 0 where
  pub starts : told.paused_at < told.resumed_at
  pub inside : told.resumed_at < length entries
  pub is_plain : plain start entries told.paused_at told.hart ≡ Some told.access
  pub still : (at : ℕ) → told.paused_at ≤ at → at ≤ told.resumed_at → stepped_at entries at ≢ Some told.hart
  pub hit : (seen : Seen) → told.verdict ≡ Hit seen → Reported start entries (pause_of told) told.access seen
  pub is_first : (seen : Seen) → told.verdict ≡ Hit seen → first start entries (pause_of told) ≡ Some seen.place
  pub changed : told.verdict ≡ Changed → Overwritten start entries (pause_of told) told.access

-- so is each ending of a legal list
abbrev pub EndingsAreOfPauses : Type 0
EndingsAreOfPauses =
    (setting : Setting) (entries : List Entry) (n : ℕ) (told : Ending) → IsLegal setting entries → slice_get (endings setting.start entries) n ≡ Some told → IsOfPause setting.start entries told
