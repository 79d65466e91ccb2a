-- the ranges so far
use Rattle.std.proofs.Common.{◌≡◌, map, take}
use Rattle.rv_explain.specs.internal.Writers.{unwritten}
use Rattle.rv_explain.proofs.stuck.reads.reads_by.Given as goal

abbrev pub invariant-loop-k : goal.invariant-loop-k
invariant-loop-k l = l.found.items ≡ map (unwritten l.machine.state.memory) (take l.k l.ranges)
