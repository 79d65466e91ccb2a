use Rattle.std.proofs.Common.{◌≡◌, ◌<◌, true, sym, subst}
use Rattle.rv_collide.specs.Stored.{setting_of}
use Rattle.rv_drive.specs.Able.{is_able}
use Rattle.rv_drive.specs.declared.ahead.Ahead.{Ahead}
use Rattle.rv_drive.specs.internal.Kept.{IsAhead, IsTurnOf}
use Rattle.rv_drive.proofs.TurnsLemmas.{step_turn}
use Rattle.rv_drive.proofs.ahead.Ahead.take_last.Goals as goal

pub turn_in_full-requires-clause-driver : goal.turn_in_full-requires-clause-driver
turn_in_full-requires-clause-driver c = subst IsAhead (sym (c.step_apart.ensures.same c.if-not-step_apart.true)) c.requires.driver

pub turn_in_full-requires-clause-hart : goal.turn_in_full-requires-clause-hart
turn_in_full-requires-clause-hart c =
    subst (λ (d : Ahead). c.args.h < d.collider.plan.harts) (sym (c.step_apart.ensures.same c.if-not-step_apart.true)) c.requires.hart

pub turn_in_full-requires-clause-able : goal.turn_in_full-requires-clause-able
turn_in_full-requires-clause-able c =
    subst (λ (d : Ahead). is_able (setting_of d.collider) d.collider.entries c.args.h ≡ true) (sym (c.step_apart.ensures.same c.if-not-step_apart.true)) c.requires.able

pub returns-else-not-step_apart-clause-driver : goal.returns-else-not-step_apart-clause-driver
returns-else-not-step_apart-clause-driver c = (c.step_apart.ensures.steps c.if-not-step_apart.false).ahead

pub returns-else-not-step_apart-clause-turns : goal.returns-else-not-step_apart-clause-turns
returns-else-not-step_apart-clause-turns c = step_turn c.args.self.now c.step_apart.new.self c.args.h (c.step_apart.ensures.steps c.if-not-step_apart.false)

pub returns-then-not-step_apart-clause-turns : goal.returns-then-not-step_apart-clause-turns
returns-then-not-step_apart-clause-turns c =
    subst (λ (d : Ahead). IsTurnOf d.collider c.turn_in_full.new.self.collider c.args.h) (c.step_apart.ensures.same c.if-not-step_apart.true) c.turn_in_full.ensures.turns
