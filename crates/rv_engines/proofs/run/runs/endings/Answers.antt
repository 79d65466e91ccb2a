use Rattle.std.proofs.Common.{arith}
use Rattle.rv_collide.specs.Stored.{setting_of}
use Rattle.rv_collide.specs.Verdict.{endings}
use Rattle.rv_engines.proofs.RunKept.{pushed}
use Rattle.rv_engines.proofs.run.runs.endings.Goals as goal

pub loop-n-preserved : goal.loop-n-preserved
loop-n-preserved c = record {
  within = (let below = c.loop-n-test.true in omega (arith, below));
  so_far = pushed (endings (setting_of c.args.core.now).start c.args.core.now.entries) c.loop-n.kept.items c.push.new.self.items c.loop-n.n c.ending.result c.in_ok-push.ensures.items c.loop-n.invariant.so_far c.ending.ensures;
}
