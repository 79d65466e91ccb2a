use Rattle.std.proofs.Common.{◌+◌, refl, arith}
use Rattle.rv_orders.proofs.DrivenLemmas.{one_turn}
use Rattle.rv_orders.proofs.runner.Runner.burst.Goals as goal

pub returns-then-left-eq0 : goal.returns-then-left-eq0
returns-then-left-eq0 g c = record {
  turns = c.loop.counter + 1;
  some = omega arith;
  few = omega arith;
  is = one_turn c.args.self.now c.loop.self c.step.new.self c.args.h c.loop.counter c.loop.invariant.so c.in_ok-step.ensures;
}

pub loop-preserved : goal.loop-preserved
loop-preserved g c = record {
  so = one_turn c.args.self.now c.loop.self c.step.new.self c.args.h c.loop.counter c.loop.invariant.so c.in_ok-step.ensures;
  runs = c.if-not-goes.ensures refl;
  left = omega arith;
}
