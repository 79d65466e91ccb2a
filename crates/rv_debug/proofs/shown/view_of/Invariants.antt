-- the registers so far
use Rattle.std.proofs.Common.{◌≡◌, ℕ, ◌<◌, length, Some}
use Rattle.std.specs.Prelude.{slice_get}
use Rattle.rv_hart.specs.Registers.{get}
use Rattle.rv_hart.specs.SomeHart.{SomeHart}
use Rattle.rv_debug.proofs.shown.view_of.Given as goal

abbrev pub invariant-loop-r : goal.invariant-loop-r
invariant-loop-r g l = record {
  size : length l.registers ≡ 32;
  shown : (k : ℕ) → k < l.r → SomeHart (λ hart. slice_get l.registers k ≡ Some (get hart.registers k)) l.machine.state l.h;
}
