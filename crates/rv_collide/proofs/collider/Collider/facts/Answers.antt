use Rattle.std.proofs.Common.{subst}
use Rattle.rv_collide.specs.Detected.{AreFacts}
use Rattle.rv_collide.proofs.Collided.{core_is, facts_of_core}
use Rattle.rv_collide.proofs.collider.Collider.facts.Goals as goal

pub returns : goal.returns
returns g c =
    facts_of_core c.schedules.ensures.reservations c.args.self.now
    (subst AreFacts (core_is c.self.inside.image.value c.self.inside.detector c.args.self.now c.self.invariant c.self.view_is) c.facts.ensures)
