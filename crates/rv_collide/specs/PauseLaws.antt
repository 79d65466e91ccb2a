-- What a legal schedule says of a pause that has ended.
use Rattle.std.specs.Prelude.{◌≡◌, ◌≢◌, ℕ, ◌<◌, ◌≤◌, Some, List, length}
use Rattle.rv_collide.specs.Entries.{stepped_at}
use Rattle.rv_collide.specs.First.{paused_access}
use Rattle.rv_collide.specs.Forced.{Setting}
use Rattle.rv_collide.specs.Legal.{IsLegal}
use Rattle.rv_collide.specs.Next.{plain}
use Rattle.rv_collide.specs.Pause.{Pause, pause_ended}
use Rattle.rv_collide.specs.declared.entry.Entry.{Entry}
use Rattle.rv_hart.specs.declared.access.Access.{Access}

-- The pause ends at the place, after it began; the access that its hart would have made is a plain load's or
-- store's; and the hart makes no step from the one place to the other.
pub record Lasts (setting : Setting) (entries : List Entry) (place : ℕ) (pause : Pause) : Type 0 where
  pub ends : pause.resumed_at ≡ place
  pub starts : pause.paused_at < place
  pub inside : place < length entries
  pub is_plain : (access : Access) → paused_access setting.start entries pause ≡ Some access → plain setting.start entries pause.paused_at pause.hart ≡ Some access
  pub still : (at : ℕ) → pause.paused_at ≤ at → at ≤ place → stepped_at entries at ≢ Some pause.hart

abbrev pub PausesLast : Type 0
PausesLast =
    (setting : Setting) (entries : List Entry) (place : ℕ) (pause : Pause) → IsLegal setting entries → pause_ended entries place ≡ Some pause → Lasts setting entries place pause
