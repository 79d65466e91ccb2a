use Rattle.std.proofs.Common.{◌<◌, length}
use Rattle.rv_waits.specs.Stuck.{Runs}
use Rattle.rv_orders.specs.internal.Gone.{IsTurns}
use Rattle.rv_orders.proofs.runner.Runner.burst.Given as goal

abbrev pub invariant-loop : goal.invariant-loop
invariant-loop g l = record {
  so : IsTurns l.initial.self l.self l.h l.counter;
  runs : Runs l.self.state l.h;
  left : length l.self.harts < l.self.most;
}
