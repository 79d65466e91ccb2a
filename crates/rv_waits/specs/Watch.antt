-- What is kept of the harts' steps, so that it can be told at once which of them wait.
use Rattle.std.specs.Prelude.{◌≡◌, ℕ, true, Some, List, length, slice_get}
use Rattle.rv_hart.specs.State.{State}
use Rattle.rv_waits.specs.Round.{IsWhereItWas}
use Rattle.rv_waits.specs.Tried.{IsTried}
use Rattle.rv_waits.specs.declared.watch.Anchor.{Anchor}

-- The steps that hart h made since the anchor are quiet ones from a state of the present memory: made alone, they lead from
-- the anchor's registers and pc to those that the hart has now.
pub record IsAnchor (s : State) (h : ℕ) (anchor : Anchor) : Type 0 where
  pub from : State
  pub to : State
  pub there : slice_get from.harts h ≡ Some anchor.hart
  pub memory : from.memory ≡ s.memory
  pub tried : IsTried h anchor.steps from to anchor.seen
  pub here : IsWhereItWas h to s

-- A place for an anchor of each hart. One that is not set says nothing.
pub record IsWatchOf (anchors : List Anchor) (s : State) : Type 0 where
  pub count : length anchors ≡ length s.harts
  pub each : (h : ℕ) (anchor : Anchor) → slice_get anchors h ≡ Some anchor → anchor.is_set ≡ true → IsAnchor s h anchor
