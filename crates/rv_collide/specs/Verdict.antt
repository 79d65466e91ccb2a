-- What a pause has shown.
use Rattle.std.specs.Prelude.{ℕ, ◌==◌, Bool, Option, Some, None, option_map, option_and_then, is_some, if◌then◌else◌, List, filter_map}
use Rattle.std.specs.Option.{option_map_or}
use Rattle.rv_break.specs.declared.claim.Seen.{Seen}
use Rattle.rv_collide.specs.Entries.{places}
use Rattle.rv_collide.specs.First.{first, paused_access, seen_at}
use Rattle.rv_collide.specs.Pause.{Pause, pause_ended}
use Rattle.rv_collide.specs.StateAt.{state_at}
use Rattle.rv_collide.specs.declared.ending.Ending.{Ending}
use Rattle.rv_collide.specs.declared.ending.Verdict.{Verdict}
use Rattle.rv_collide.specs.declared.ending.Verdict.TheVariants.{Hit, Changed, Quiet}
use Rattle.rv_collide.specs.declared.entry.Entry.{Entry}
use Rattle.rv_hart.specs.State.{State}
use Rattle.rv_hart.specs.declared.access.Access.{Access}
use Rattle.rv_memory.specs.Memory.{load}

-- what a data breakpoint reports of a pause that it watched: the first conflicting access
unfoldable pub watched : State → List Entry → Pause → Option Seen
watched start entries pause = if is_some pause.slot then option_and_then (seen_at start entries) (first start entries pause) else None

-- the bytes of an access at a place, as a little-endian number
unfoldable pub bytes_at : State → List Entry → ℕ → Access → ℕ
bytes_at start entries place access = option_map_or (λ (s : State). load s.memory access.first access.size) (state_at start entries place) 0

abbrev pub verdict_of : Option Seen → Bool → Verdict
verdict_of (Some seen) same = Hit seen
verdict_of None same = if same then Quiet else Changed

-- Hit where the pause was watched and there is a first conflicting access within it; else Changed where the
-- bytes of the paused access differ between the pause and its end; else Quiet.
unfoldable pub verdict : State → List Entry → Pause → Access → Verdict
verdict start entries pause access =
    verdict_of (watched start entries pause) (bytes_at start entries pause.paused_at access == bytes_at start entries pause.resumed_at access)

-- the whole answer to the end of a pause whose hart would have made the access
unfoldable pub ending : State → List Entry → Pause → Access → Ending
ending start entries pause access = record {
  hart = pause.hart;
  paused_at = pause.paused_at;
  resumed_at = pause.resumed_at;
  access = access;
  slot = pause.slot;
  verdict = verdict start entries pause access;
  old = bytes_at start entries pause.paused_at access;
  new = bytes_at start entries pause.resumed_at access;
}

unfoldable pub ending_at : State → List Entry → ℕ → Option Ending
ending_at start entries place =
    option_and_then (λ pause. option_map (ending start entries pause) (paused_access start entries pause)) (pause_ended entries place)

-- the endings of a list, in the order of its Resumed entries
unfoldable pub endings : State → List Entry → List Ending
endings start entries = filter_map (ending_at start entries) (places entries)
