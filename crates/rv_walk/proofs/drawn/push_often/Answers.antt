use Rattle.std.proofs.Common.{sym, subst}
use Rattle.std.specs.List.{All}
use Rattle.std.proofs.lemmas.List.Elements.{All-push}
use Rattle.rv_walk.specs.NearPair.{IsNearPair}
use Rattle.rv_walk.proofs.drawn.push_often.Goals as goal

pub loop-preserved : goal.loop-preserved
loop-preserved c = λ walk before is.
    subst (All (IsNearPair walk)) (sym c.in_ok-push.ensures.items) (All-push (IsNearPair walk) c.loop.all.items _ (c.loop.invariant walk before is) is)
