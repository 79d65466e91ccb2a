use Rattle.rv_collide.specs.internal.Row.{AreAble}
use Rattle.rv_collide.proofs.detector.Detector.mark_able.Given as goal

abbrev pub invariant-loop-h : goal.invariant-loop-h
invariant-loop-h g l = AreAble l.self l.able
