-- the machine is at the place, and the writers before it are named
use Rattle.std.proofs.Common.{◌≡◌, Some, map}
use Rattle.rv_collide.specs.StateAt.{state_at}
use Rattle.rv_explain.specs.internal.Writers.{with_writer}
use Rattle.rv_explain.proofs.stuck.reads.find_writers.Given as goal

abbrev pub invariant-loop-place : goal.invariant-loop-place
invariant-loop-place l = record {
  here : state_at l.initial.machine.state l.entries l.place ≡ Some l.machine.state;
  reads : l.reads ≡ map (map (with_writer l.initial.machine.state l.entries l.place)) l.initial.reads;
}
