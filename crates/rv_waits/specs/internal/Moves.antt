use Rattle.std.specs.Prelude.{◌≡◌, ℕ, true, Some, Option, List, IsSomeAnd, slice_get}
use Rattle.rv_hart.specs.SomeHart.{SomeHart}
use Rattle.rv_hart.specs.State.{State}
use Rattle.rv_hart.specs.Step.{step_of}
use Rattle.rv_hart.specs.StepLaws.{access_writes}
use Rattle.rv_hart.specs.declared.access.Access.{Access}
use Rattle.rv_hart.specs.declared.access.Event.TheVariants.{Moved}
use Rattle.rv_waits.specs.Round.{IsQuietStep}
use Rattle.rv_waits.specs.Touches.{is_among}
use Rattle.rv_waits.specs.declared.watch.Anchor.{Anchor}

-- hart h has an anchor that is set
abbrev pub IsSetAt : List Anchor → ℕ → Type 0
IsSetAt anchors h = IsSomeAnd (slice_get anchors h) (λ anchor. anchor.is_set ≡ true)

-- a step of hart h from its pc, with its access, that changes no byte, and that is a quiet one where its anchor is set
pub record IsMove (anchors : List Anchor) (s t : State) (h pc : ℕ) (access : Option Access) : Type 0 where
  pub step : step_of s h ≡ Some (Moved access, t)
  pub memory : t.memory ≡ s.memory
  pub quiet : IsSetAt anchors h → IsQuietStep h s t
  pub at_pc : SomeHart (λ hart. pc ≡ hart.pc) s h

-- the access writes no byte but these
abbrev pub WritesAmong : ℕ → ℕ → Option Access → Type 0
WritesAmong first size access = (address : ℕ) → access_writes access address ≡ true → is_among first size address ≡ true
