use Rattle.std.proofs.Common.{subst}
use Rattle.rv_walk.specs.Walked.{Walked, IsAt}
use Rattle.rv_walk.proofs.StandsLemmas.{at_run}
use Rattle.rv_walk.proofs.walk.Walk.machine.Goals as goal

pub returns : goal.returns
returns g c = subst (λ (v : Walked). IsAt v c.self.inside.machine.state) c.self.view_is (at_run _ _ c.self.invariant.reached)
