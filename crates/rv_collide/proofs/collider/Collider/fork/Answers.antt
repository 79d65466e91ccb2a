use Rattle.std.proofs.Common.{sym, ap, ◌∙◌}
use Rattle.rv_collide.specs.Stored.{Stored}
use Rattle.rv_collide.proofs.collider.Collider.fork.Goals as goal

pub begin-requires-clause-harts : goal.begin-requires-clause-harts
begin-requires-clause-harts g c =
    c.facts.ensures.harts c.in_ok-machine.machine.state c.in_ok-machine.ensures.equal
    ∙ ap (λ (v : Stored). v.plan.harts) c.self.view_is
    ∙ sym c.requires.harts
