use Rattle.std.proofs.lemmas.List.Elements.{All-get_or}
use Rattle.rv_walk.specs.NearPair.{IsNearPair}
use Rattle.rv_walk.proofs.drawn.each_so_often.Goals as goal

pub loop-pair-preserved : goal.loop-pair-preserved
loop-pair-preserved c = λ walk are.
    c.in_ok-push_often.ensures walk (c.loop-pair.invariant walk are) (All-get_or (IsNearPair walk) c.args.pairs.now c.loop-pair.pair-index _ c.loop-pair-test.true are)
