use Rattle.rv_collide.specs.internal.Row.{IsInRow}
use Rattle.rv_collide.proofs.detector.Detector.row.Given as goal

abbrev pub invariant-loop-i : goal.invariant-loop-i
invariant-loop-i g l = IsInRow l.initial.self l.self l.entries l.able l.is_watched l.i l.end
