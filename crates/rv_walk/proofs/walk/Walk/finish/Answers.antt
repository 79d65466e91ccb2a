use Rattle.std.proofs.Common.{subst}
use Rattle.rv_walk.specs.Told.{AreTold}
use Rattle.rv_walk.specs.Walked.{Walked}
use Rattle.rv_walk.proofs.walk.Walk.finish.Goals as goal

pub returns-clause-pairs : goal.returns-clause-pairs
returns-clause-pairs g c = subst (λ (v : Walked). AreTold v c.in_ok-pairs.pairs.items) c.self.view_is (c.in_ok-pairs.ensures _ c.self.invariant.seen.near)
