-- A step that was watched by what was known before it.
use Rattle.std.proofs.Common.{◌≡◌, ℕ, Bool, true, false, Option, Some, List, length, refl, subst, ◌∙◌}
use Rattle.std.specs.Prelude.{not, slice_get}
use Rattle.rv_hart.specs.Locality.{at_conditional}
use Rattle.rv_hart.specs.ReservationLaws.{SizesOfAccesses}
use Rattle.rv_hart.specs.SomeHart.{SomeHart}
use Rattle.rv_hart.specs.State.{State}
use Rattle.rv_hart.specs.Step.{step_of}
use Rattle.rv_hart.specs.StepLaws.{OutputLaw}
use Rattle.rv_hart.specs.declared.access.Access.{Access}
use Rattle.rv_hart.specs.declared.access.Event.TheVariants.{Moved}
use Rattle.rv_memory.specs.MemoryLaws.{StoreKeepsOtherBytes}
use Rattle.rv_waits.specs.Before.{IsBefore, IsSight}
use Rattle.rv_waits.specs.declared.quiet.FourBytes.{FourBytes}
use Rattle.rv_waits.specs.declared.watch.Anchor.{Anchor}
use Rattle.rv_waits.specs.declared.watch.before.Before.{Before}
use Rattle.rv_waits.specs.declared.watch.before.Sight.TheVariants as sight
use Rattle.rv_waits.specs.internal.Four.{AreBytesFrom}
use Rattle.rv_waits.specs.internal.Moves.{IsMove, IsSetAt}
use Rattle.rv_waits.proofs.MoveLemmas.{WritesNothing, left_memory}
use Rattle.rv_waits.proofs.QuietLemmas.{quiet_memory, quiet_output}

-- of a step that printed nothing and left memory as it was: a quiet one where it is no SC
still : OutputLaw → (anchors : List Anchor) (s t : State) (h pc : ℕ) (access : Option Access) → step_of s h ≡ Some (Moved access, t) → t.memory ≡ s.memory → length t.output ≡ length s.output → (IsSetAt anchors h → at_conditional s.memory (slice_get s.harts h) ≡ false) → SomeHart (λ hart. pc ≡ hart.pc) s h → IsMove anchors s t h pc access
still law anchors s t h pc access step memory printed no_sc at_pc =
    let output : t.output ≡ s.output = quiet_output law s t h (Moved access) step printed in
    record {
      step = step;
      memory = memory;
      quiet = λ set_at. record { moves = (access, step); memory = memory; output = output; no_sc = no_sc set_at };
      at_pc = at_pc;
    }

pub by_access : OutputLaw → (anchors : List Anchor) (s t : State) (h : ℕ) (before : Before) (access : Option Access) → IsBefore anchors s h before → before.sight ≡ sight.Access → WritesNothing access → length t.output ≡ before.printed → step_of s h ≡ Some (Moved access, t) → IsMove anchors s t h before.pc access
by_access law anchors s t h before access known e none printed step =
    let no_sc : IsSetAt anchors h → at_conditional s.memory (slice_get s.harts h) ≡ false = subst (IsSight anchors s h) e known.sight in
    still law anchors s t h before.pc access step (left_memory s t h access step none) (printed ∙ known.printed) no_sc known.at_pc

pub by_bytes : StoreKeepsOtherBytes → SizesOfAccesses → OutputLaw → (anchors : List Anchor) (s t : State) (h first : ℕ) (bytes : FourBytes) (before : Before) (access : Option Access) → IsBefore anchors s h before → before.sight ≡ sight.Bytes first bytes → AreBytesFrom t.memory first bytes → length t.output ≡ before.printed → step_of s h ≡ Some (Moved access, t) → IsMove anchors s t h before.pc access
by_bytes keeps sizes law anchors s t h first bytes before access known e after printed step =
    let it : IsSight anchors s h (sight.Bytes first bytes) = subst (IsSight anchors s h) e known.sight in
    let memory : t.memory ≡ s.memory = quiet_memory keeps sizes s t h first (Moved access) bytes step it.0 it.1 it.2 after in
    still law anchors s t h before.pc access step memory (printed ∙ known.printed) (λ set_at. it.0) known.at_pc

pub not_so : (b : Bool) → not b ≡ true → b ≡ false
not_so true e = cc
not_so false e = refl
