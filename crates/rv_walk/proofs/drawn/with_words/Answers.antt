use Rattle.std.proofs.Common.{◌≡◌, ◌+◌, ◌≤◌, List, ◌++◌, ◌∷◌, [], sym, subst, ap, arith}
use Rattle.std.specs.List.{All}
use Rattle.std.proofs.lemmas.List.Elements.{All-get_or, All-push}
use Rattle.rv_walk.specs.NearPair.{IsNearPair}
use Rattle.rv_walk.specs.declared.drawn.Worded.{Worded}
use Rattle.rv_walk.proofs.drawn.with_words.Goals as goal

pub loop-place-preserved : goal.loop-place-preserved
loop-place-preserved c = record {
  are = λ walk are.
      subst (All (λ (it : Worded). IsNearPair walk it.pair)) (sym c.in_ok-push.ensures.items) (All-push (λ (it : Worded). IsNearPair walk it.pair) c.loop-place.order.items _ (c.loop-place.invariant.are walk are)
      (All-get_or (IsNearPair walk) c.args.pairs.now c.loop-place.place _ c.loop-place-test.true are));
  taken = let e : c.next.new.self.taken ≡ c.loop-place.words.taken + 1 = ap (λ w. w.taken) c.next.ensures.after in
      let was : c.loop-place.words.taken ≤ c.args.words.now.taken + c.loop-place.place = c.loop-place.invariant.taken in
      omega arith;
}
