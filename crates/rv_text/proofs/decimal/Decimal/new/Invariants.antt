use Rattle.rv_text.proofs.DecimalLemmas.{SoFar}
use Rattle.rv_text.proofs.decimal.Decimal.new.Given as goal

abbrev pub invariant-loop-rest : goal.invariant-loop-rest
invariant-loop-rest l = SoFar l.number l.rest l.first l.digits

abbrev pub decreases-loop-rest : goal.decreases-loop-rest
decreases-loop-rest l = l.rest
