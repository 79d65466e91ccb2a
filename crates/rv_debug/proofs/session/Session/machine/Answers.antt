use Rattle.std.proofs.Common.{◌≡◌, Some, subst}
use Rattle.rv_debug.specs.Placed.{Placed, state}
use Rattle.rv_debug.proofs.session.Session.machine.Goals as goal

pub returns : goal.returns
returns c = subst (λ (v : Placed). state v ≡ Some c.self.inside.machine.state) c.self.view_is c.self.invariant.here.state
