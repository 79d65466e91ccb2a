use Rattle.rv_collide.proofs.RowLemmas.{none_marked}
use Rattle.rv_collide.proofs.detector.again.none_able.Goals as goal

pub returns : goal.returns
returns c = λ h. none_marked 256 h
