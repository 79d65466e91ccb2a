use Rattle.std.proofs.Common.{arith}
use Rattle.rv_collide.proofs.JoinedEndings.{one_told}
use Rattle.rv_collide.proofs.join.endings_joined.Goals as goal

pub loop-ending-preserved : goal.loop-ending-preserved
loop-ending-preserved c =
    one_told c.args.by c.args.told.now c.args.ended.now c.loop-ending.endings.items c.push.new.self.items c.loop-ending.ending-index c.later.result _ (omega arith) c.loop-ending.invariant c.later.ensures c.in_ok-push.ensures.items
