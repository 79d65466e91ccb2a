-- What a change of the paused access's bytes shows.
use Rattle.std.specs.Prelude.{◌≡◌, ◌≢◌, ℕ, ◌<◌, IsTrue, Some, List}
use Rattle.rv_break.specs.declared.claim.Seen.{Seen}
use Rattle.rv_collide.specs.First.{paused_access, seen_at}
use Rattle.rv_collide.specs.Forced.{Setting}
use Rattle.rv_collide.specs.Legal.{IsLegal}
use Rattle.rv_collide.specs.Pause.{Pause, pause_ended}
use Rattle.rv_collide.specs.Verdict.{bytes_at, verdict}
use Rattle.rv_collide.specs.declared.ending.Verdict.TheVariants.{Changed}
use Rattle.rv_collide.specs.declared.entry.Entry.{Entry}
use Rattle.rv_hart.specs.Conflict.{Shared}
use Rattle.rv_hart.specs.State.{State}
use Rattle.rv_hart.specs.declared.access.Access.{Access}

-- At a place within the pause another hart made an access that writes one of the bytes of the access that
-- the paused hart would have made.
pub record Overwritten (start : State) (entries : List Entry) (pause : Pause) (access : Access) : Type 0 where
  pub seen : Seen
  pub after : pause.paused_at < seen.place
  pub before : seen.place < pause.resumed_at
  pub others : pause.hart ≢ seen.hart
  pub did : seen_at start entries seen.place ≡ Some seen
  pub writes : IsTrue seen.access.write
  pub shared : Shared access seen.access

-- Where the bytes of the paused access differ between a pause and its end, another hart has written one of
-- them within it.
abbrev pub ChangesAreWritten : Type 0
ChangesAreWritten =
    (setting : Setting) (entries : List Entry) (place : ℕ) (pause : Pause) (access : Access) → IsLegal setting entries → pause_ended entries place ≡ Some pause → paused_access setting.start entries pause ≡ Some access → bytes_at setting.start entries pause.paused_at access ≢ bytes_at setting.start entries pause.resumed_at access → Overwritten setting.start entries pause access

-- so has it where the verdict is Changed
abbrev pub ChangedIsWritten : Type 0
ChangedIsWritten =
    (setting : Setting) (entries : List Entry) (place : ℕ) (pause : Pause) (access : Access) → IsLegal setting entries → pause_ended entries place ≡ Some pause → paused_access setting.start entries pause ≡ Some access → verdict setting.start entries pause access ≡ Changed → Overwritten setting.start entries pause access

-- and a pause that a data breakpoint watched never ends so: it saw the write
abbrev pub WatchedIsNeverChanged : Type 0
WatchedIsNeverChanged =
    (setting : Setting) (entries : List Entry) (place : ℕ) (pause : Pause) (access : Access) (slot : ℕ) → IsLegal setting entries → pause_ended entries place ≡ Some pause → paused_access setting.start entries pause ≡ Some access → pause.slot ≡ Some slot → verdict setting.start entries pause access ≢ Changed
