use Rattle.std.proofs.Common.{subst}
use Rattle.rv_collide.specs.Legal.{IsLegal}
use Rattle.rv_debug.specs.Placed.{Placed, setting}
use Rattle.rv_debug.proofs.session.Session.facts.Goals as goal

pub returns-clause-legal : goal.returns-clause-legal
returns-clause-legal c = subst (λ (p : Placed). IsLegal (setting p) p.entries) c.self.view_is c.facts.ensures.legal
