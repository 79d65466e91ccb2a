use Rattle.rv_walk.proofs.ListedLemmas.{listed_by}
use Rattle.rv_walk.proofs.sites.Sites.of.Goals as goal

pub invariant_of-result : goal.invariant_of-result
invariant_of-result c = listed_by c.in_ok-set.set c.deref.result.now _ (cc) c.in_ok-set.ensures
