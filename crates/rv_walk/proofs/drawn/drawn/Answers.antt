use Rattle.std.proofs.Common.{sym, subst}
use Rattle.std.specs.List.{All}
use Rattle.std.proofs.lemmas.List.Sorted.{All-permutation}
use Rattle.rv_walk.specs.NearPair.{IsNearPair}
use Rattle.rv_walk.specs.declared.drawn.Worded.{Worded}
use Rattle.rv_walk.proofs.drawn.drawn.Goals as goal

pub returns : goal.returns
returns c = λ walk are.
    All-permutation (IsNearPair walk) c.in_ok-drawn.drawn.items c.sort_unstable_by_key-2.new.self.items c.sort_unstable_by_key-2.ensures.permutation
    (c.in_ok-drawn.ensures walk (subst (All (λ (it : Worded). IsNearPair walk it.pair)) (sym c.deref.ensures.value) (All-permutation (λ (it : Worded). IsNearPair walk it.pair) c.in_ok-order.order.items c.sort_unstable_by_key.new.self.items c.sort_unstable_by_key.ensures.permutation (c.in_ok-order.ensures walk are))))
