-- When a hart waits: stepped alone, it comes back to where it is, and changes nothing on its way.
use Rattle.std.specs.Prelude.{◌≡◌, ℕ, zero, suc, ◌≤◌, false, Option, Some, slice_get}
use Rattle.rv_hart.specs.Locality.{at_conditional}
use Rattle.rv_hart.specs.SomeHart.{SomeHart}
use Rattle.rv_hart.specs.State.{State}
use Rattle.rv_hart.specs.Step.{step_of}
use Rattle.rv_hart.specs.StepLaws.{SameButReservation}
use Rattle.rv_hart.specs.declared.access.Access.{Access}
use Rattle.rv_hart.specs.declared.access.Event.TheVariants.{Moved}

-- A quiet step of hart h, from s to t: the hart moves on, no byte changes, nothing is printed, and it is no SC, not even one
-- that fails. (A store of the value that is there changes no byte, nor does an AMO that puts back what it read.)
pub record IsQuietStep (h : ℕ) (s t : State) : Type 0 where
  pub moves : (access : Option Access) × (step_of s h ≡ Some (Moved access, t))
  pub memory : t.memory ≡ s.memory
  pub output : t.output ≡ s.output
  pub no_sc : at_conditional s.memory (slice_get s.harts h) ≡ false

-- n quiet steps of hart h, one after another, lead from s to t
abbrev pub StepsQuietly : ℕ → ℕ → State → State → Type 0
StepsQuietly h zero s t = s ≡ t
StepsQuietly h (suc n) s t = (next : State) × IsQuietStep h s next × StepsQuietly h n next t

-- hart h has the same registers, pc and status in both states
abbrev pub IsWhereItWas : ℕ → State → State → Type 0
IsWhereItWas h s t = SomeHart (λ one. SomeHart (SameButReservation one) t h) s h

-- A round of hart h from state s: one or more quiet steps, made alone, which lead it back to its registers and pc.
pub record IsRound (s : State) (h : ℕ) (n : ℕ) : Type 0 where
  pub some : 1 ≤ n
  pub back : (t : State) × StepsQuietly h n s t × IsWhereItWas h s t

-- Hart h waits in state s. Nothing is said of the past: whoever has the state can test it.
abbrev pub Waits : State → ℕ → Type 0
Waits s h = (n : ℕ) × IsRound s h n
