use Rattle.std.specs.Prelude.{◌≡◌, ℕ, ◌<◌, ◌+◌, ◌%◌, false}
use Rattle.rv_hart.specs.State.{State}
use Rattle.rv_walk.specs.Burst.{MayRest}
use Rattle.rv_walk.specs.internal.Probing.{IsNow, holds}
use Rattle.rv_walk.proofs.probe.Prober.next.Given as goal

abbrev pub invariant-loop-passed : goal.invariant-loop-passed
invariant-loop-passed g l =
    (s : State) → IsNow l.self.core s → (k : ℕ) → k < l.passed → holds l.self.held ((l.from + k) % l.harts) ≡ false → MayRest s ((l.from + k) % l.harts)
