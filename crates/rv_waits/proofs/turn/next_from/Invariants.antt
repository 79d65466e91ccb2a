use Rattle.std.specs.Prelude.{ℕ, ◌<◌, ◌+◌, ◌%◌, length}
use Rattle.rv_waits.specs.Turn.{MayRest}
use Rattle.rv_waits.proofs.turn.next_from.Given as goal

abbrev pub invariant-loop-passed : goal.invariant-loop-passed
invariant-loop-passed g l = (k : ℕ) → k < l.passed → MayRest l.machine.state ((l.from + k) % length l.machine.state.harts)
