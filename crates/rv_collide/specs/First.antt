-- The first conflicting access of another hart within a pause.
use Rattle.std.specs.Prelude.{ℕ, ◌==◌, ◌&&◌, Bool, false, not, Option, option_map, option_and_then, List, find}
use Rattle.std.specs.Option.{option_map_or}
use Rattle.rv_break.specs.declared.claim.Seen.{Seen}
use Rattle.rv_collide.specs.Entries.{stepped_at}
use Rattle.rv_collide.specs.Made.{made}
use Rattle.rv_collide.specs.Next.{next}
use Rattle.rv_collide.specs.Pause.{Pause, within}
use Rattle.rv_collide.specs.declared.entry.Entry.{Entry}
use Rattle.rv_hart.specs.Conflict.{conflicts}
use Rattle.rv_hart.specs.State.{State}
use Rattle.rv_hart.specs.declared.access.Access.{Access}

-- the access that the paused hart would have made at the place of its pause
unfoldable pub paused_access : State → List Entry → Pause → Option Access
paused_access start entries pause = next start entries pause.paused_at pause.hart

-- an access made at a place, as a report names it
unfoldable pub seen_at : State → List Entry → ℕ → Option Seen
seen_at start entries place =
    option_and_then (λ hart. option_map (λ access. record { place = place; hart = hart; access = access }) (made start entries place)) (stepped_at entries place)

-- it is another hart's, and conflicts with the access
abbrev pub is_against : ℕ → Access → Seen → Bool
is_against hart access seen = not (hart == seen.hart) && conflicts access seen.access

-- another hart than the paused one made an access at the place that conflicts with the paused access
unfoldable pub conflicts_at : State → List Entry → Pause → ℕ → Bool
conflicts_at start entries pause place =
    option_map_or (λ access. option_map_or (is_against pause.hart access) (seen_at start entries place) false) (paused_access start entries pause) false

-- the least place within the pause where one did
unfoldable pub first : State → List Entry → Pause → Option ℕ
first start entries pause = find (conflicts_at start entries pause) (within pause)
