use Rattle.std.proofs.Common.{◌+◌, ◌<◌, ap, refl, arith}
use Rattle.rv_collide.specs.Plan.{Numbers}
use Rattle.rv_collide.specs.Stored.{setting_of}
use Rattle.rv_drive.proofs.KeptLemmas.{is_ready}
use Rattle.rv_drive.proofs.TurnsLemmas.{stays_ahead}
use Rattle.rv_drive.proofs.ahead.Ahead.step_apart.Goals as goal

pub overflow_sub-plan : goal.overflow_sub-plan
overflow_sub-plan c =
    let left = (is_ready (setting_of c.args.self.now.collider) c.args.self.now.collider.entries c.args.h c.requires.able).left in
    let made = c.requires.driver.kept.made_is in
    let steps = ap (λ (n : Numbers). n.steps) c.plan-plan.ensures in
    omega arith

pub returns-clause-steps : goal.returns-clause-steps
returns-clause-steps c = λ _.
    let steps = ap (λ (n : Numbers). n.steps) c.plan-plan.ensures in
    let more : c.args.self.now.made + 1 < c.args.self.now.collider.plan.steps = omega (arith, c.if-plan-self-lt2.false) in
    stays_ahead c.open_pauses.ensures c.what_no_step_does.ensures.other_harts c.args.self.now c.step_quick.new.self c.args.h c.requires.driver c.requires.able (c.if-not-step_quick.ensures.steps refl) more
