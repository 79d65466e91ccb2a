use Rattle.std.proofs.Common.{◌≡◌, Some, subst}
use Rattle.rv_hart.specs.Run.{run}
use Rattle.rv_walk.specs.Walked.{Walked}
use Rattle.rv_walk.proofs.walk.Walk.facts.Goals as goal

pub returns : goal.returns
returns g c = (
  c.self.inside.machine.state,
  subst (λ (v : Walked). run v.start v.harts ≡ Some c.self.inside.machine.state) c.self.view_is c.self.invariant.reached,
)
