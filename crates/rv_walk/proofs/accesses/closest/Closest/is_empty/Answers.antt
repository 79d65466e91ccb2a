use Rattle.std.proofs.Common.{List, subst}
use Rattle.std.specs.List.{Contains}
use Rattle.rv_walk.specs.declared.near_pair.NearPair.{NearPair}
use Rattle.rv_walk.proofs.ClosestLemmas.{some_pair}
use Rattle.rv_walk.proofs.accesses.closest.Closest.is_empty.Goals as goal

pub returns : goal.returns
returns c = λ no. subst (λ (v : List NearPair). (pair : NearPair) × Contains v pair) c.self.view_is (some_pair c.self.inside.pairs.entries _ c.is_empty.ensures no)
