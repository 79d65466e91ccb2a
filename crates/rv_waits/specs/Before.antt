-- What is known of a hart before its step, so that the step can be watched whoever makes it.
use Rattle.std.specs.Prelude.{◌≡◌, ⊤, ℕ, false, IfSome, List, length, slice_get}
use Rattle.rv_hart.specs.Locality.{at_conditional}
use Rattle.rv_hart.specs.NextAccess.{next_access}
use Rattle.rv_hart.specs.SomeHart.{SomeHart}
use Rattle.rv_hart.specs.State.{State}
use Rattle.rv_waits.specs.declared.watch.Anchor.{Anchor}
use Rattle.rv_waits.specs.declared.watch.before.Before.{Before}
use Rattle.rv_waits.specs.declared.watch.before.Sight.{Sight}
use Rattle.rv_waits.specs.declared.watch.before.Sight.TheVariants.{Access, Nothing, Bytes}
use Rattle.rv_waits.specs.internal.Four.{AreBytesFrom}
use Rattle.rv_waits.specs.internal.Moves.{IsSetAt}

-- A step by whose access it is told is no SC, where the hart has an anchor; one that is told by its bytes is none at all, and these
-- are the bytes from where it would access memory.
abbrev pub IsSight : List Anchor → State → ℕ → Sight → Type 0
IsSight anchors s h Access = IsSetAt anchors h → at_conditional s.memory (slice_get s.harts h) ≡ false
IsSight anchors s h Nothing = ⊤
IsSight anchors s h (Bytes first bytes) =
    (at_conditional s.memory (slice_get s.harts h) ≡ false) × IfSome (next_access s h) (λ access. first ≡ access.first) × AreBytesFrom s.memory first bytes

pub record IsBefore (anchors : List Anchor) (s : State) (h : ℕ) (before : Before) : Type 0 where
  pub at_pc : SomeHart (λ hart. before.pc ≡ hart.pc) s h
  pub printed : before.printed ≡ length s.output
  pub sight : IsSight anchors s h before.sight
