use Rattle.std.proofs.Common.{ℕ, ◌<◌}
use Rattle.rv_waits.specs.Stuck.{Runs}
use Rattle.rv_orders.proofs.end.some_runs.Given as goal

abbrev pub invariant-loop-h : goal.invariant-loop-h
invariant-loop-h g l = (k : ℕ) → k < l.h → ¬ Runs l.machine.state k
