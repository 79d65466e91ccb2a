use Rattle.std.proofs.Common.{◌≡◌, List, sym, subst, rules}
use Rattle.std.specs.HashMap.{values}
use Rattle.std.specs.List.{All}
use Rattle.std.specs.List.Sorted.{IsPermutation}
use Rattle.std.proofs.lemmas.List.Sorted.{All-permutation, answers_always}
use Rattle.rv_walk.specs.NearPair.{IsNearPair}
use Rattle.rv_walk.specs.Told.{rank_of}
use Rattle.rv_walk.specs.declared.near_pair.NearPair.{NearPair}
use Rattle.rv_walk.proofs.ClosestLemmas.{once_each, same_addresses, same_equiv}
use Rattle.rv_walk.proofs.accesses.closest.Closest.sorted.Goals as goal

pub returns : goal.returns
returns c =
    let pairs = c.sort_unstable_by_key.new.self.items in
    let listed : c.in_ok-pairs.pairs.items ≡ values c.self.inside.pairs = search rules in
    let moved : IsPermutation (values c.self.inside.pairs) c.sort_unstable_by_key.new.self.items = subst (λ (xs : List NearPair). IsPermutation xs c.sort_unstable_by_key.new.self.items) listed c.sort_unstable_by_key.ensures.permutation in
    λ walk are. record {
      are_near = All-permutation (IsNearPair walk) (values c.self.inside.pairs) pairs moved (subst (All (IsNearPair walk)) (sym c.self.view_is) are);
      ascend = c.sort_unstable_by_key.ensures.sorted rank_of (answers_always _ _ _ (λ f a r q k. search rules));
      once = once_each same_addresses same_equiv.refl same_equiv.symm c.self.inside.pairs pairs c.values.ensures.unique c.self.invariant moved;
    }
