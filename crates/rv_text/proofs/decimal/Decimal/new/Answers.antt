use Rattle.std.proofs.Common.{arith}
use Rattle.rv_text.proofs.DecimalLemmas.{SoFar-more, SoFar-all}
use Rattle.rv_text.proofs.decimal.Decimal.new.Goals as goal

pub loop-rest-preserved : goal.loop-rest-preserved
loop-rest-preserved c =
    let l = c.loop-rest in
    SoFar-more _ l.rest l.first l.digits l.invariant c.loop-rest-test.true (omega arith)

pub returns : goal.returns
returns c = SoFar-all _ _ _ _ c.loop-rest.invariant c.loop-rest-test.false
