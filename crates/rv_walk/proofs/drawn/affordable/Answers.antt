use Rattle.std.proofs.Common.{◌≡◌, List, ◌++◌, ◌∷◌, [], sym, subst}
use Rattle.std.specs.List.{All}
use Rattle.std.proofs.lemmas.List.Elements.{All-get_or, All-push}
use Rattle.rv_walk.specs.NearPair.{IsNearPair}
use Rattle.rv_walk.specs.declared.drawn.Worded.{Worded}
use Rattle.rv_walk.specs.declared.near_pair.NearPair.{NearPair}
use Rattle.rv_walk.proofs.drawn.affordable.Goals as goal

pub loop-it-preserved : goal.loop-it-preserved
loop-it-preserved c = λ walk are.
    subst (All (IsNearPair walk)) (sym c.in_ok-push.ensures.items) (All-push (IsNearPair walk) c.loop-it.drawn.items _ (c.loop-it.invariant walk are)
    (All-get_or (λ (it : Worded). IsNearPair walk it.pair) c.args.order.now c.loop-it.it-index _ c.loop-it-test.true are))
