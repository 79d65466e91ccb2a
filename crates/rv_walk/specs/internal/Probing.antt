-- What a probe keeps beside its detector, and how that follows from it.
use Rattle.std.specs.Prelude.{◌≡◌, ℕ, ◌+◌, ◌<◌, ◌≤◌, ◌==◌, Bool, false, Option, Some, IfSome, List, length}
use Rattle.std.specs.Option.{option_map_or}
use Rattle.rv_collide.specs.Begun.{Begun}
use Rattle.rv_collide.specs.Pause.{Opening, opening_of}
use Rattle.rv_collide.specs.StateAt.{state_at}
use Rattle.rv_drive.specs.Able.{others_steps}
use Rattle.rv_hart.specs.State.{State}
use Rattle.rv_waits.specs.Watch.{IsWatchOf}
use Rattle.rv_waits.specs.declared.watch.Anchor.{Anchor}
use Rattle.rv_walk.specs.Probe.{Aim, IsProbe, MayEnd}
use Rattle.rv_walk.specs.declared.probe.Held.{Held}

-- A probe: what it aims at, its schedule, and the hart that is held.
pub record Probing : Type 0 where
  pub aim : Aim
  pub core : Begun
  pub held : Option Held

-- the hart is held
abbrev pub holds : Option Held → ℕ → Bool
holds held hart = option_map_or (λ (it : Held). it.hart == hart) held false

-- the hart's pause is open, and so many steps of others are left of it
abbrev pub IsHeld : Begun → Held → Type 0
IsHeld core held =
    (opening : Opening) × (opening_of core.entries held.hart ≡ Some opening) × (others_steps core.entries opening + held.left ≡ core.plan.pause) × (held.hart < core.plan.harts)

-- the state at the end of the list
abbrev pub IsNow : Begun → State → Type 0
IsNow core s = state_at core.start core.entries (length core.entries) ≡ Some s

pub record IsProbing (p : Probing) (anchors : List Anchor) : Type 0 where
  pub probe : IsProbe p.aim p.core
  pub watched : (s : State) → IsNow p.core s → IsWatchOf anchors s
  pub held_is : IfSome p.held (IsHeld p.core)

-- no pause is due, and the hart isn't held: it may take a turn, as far as these go
pub record IsReady (p : Probing) (hart : ℕ) : Type 0 where
  pub is_hart : hart < p.core.plan.harts
  pub left : IfSome p.held (λ it. 1 ≤ it.left)
  pub free : holds p.held hart ≡ false

-- the pause of the hart that is held, if one is, may end here
abbrev pub MayLetGo : Probing → Type 0
MayLetGo p = IfSome p.held (λ it. MayEnd p.core (length p.core.entries) it.hart)

-- the probe has gone on, or stands where it did
pub record IsFurther (old new : Probing) : Type 0 where
  pub aim : new.aim ≡ old.aim
  pub start : new.core.start ≡ old.core.start
  pub plan : new.core.plan ≡ old.core.plan
  pub longer : length old.core.entries ≤ length new.core.entries
