use Rattle.rv_collide.proofs.RowLemmas.{one_more_mark, unmarked}
use Rattle.rv_collide.proofs.detector.Detector.mark_able.Goals as goal

pub loop-h-init : goal.loop-h-init
loop-h-init g c = λ h marked. unmarked c.args.self.now c.args.able.now h (c.requires h) marked

pub loop-h-preserved : goal.loop-h-preserved
loop-h-preserved g c = one_more_mark c.args.self.now c.loop-h.able c.from.result c.loop-h.h c.is_able.result c.from.ensures c.loop-h.invariant c.is_able.ensures
