use Rattle.std.proofs.Common.{◌<◌, ap, sym, ◌∙◌, arith}
use Rattle.rv_collide.specs.Plan.{Numbers}
use Rattle.rv_collide.specs.Stored.{setting_of}
use Rattle.rv_drive.proofs.DueLemmas.{only_due, only_open, only_undue}
use Rattle.rv_drive.proofs.ahead.Ahead.first_due.Goals as goal

pub returns-then-has_lasted-clause-value : goal.returns-then-has_lasted-clause-value
returns-then-has_lasted-clause-value c =
    let harts = ap (λ (n : Numbers). n.harts) c.plan.ensures in
    let below = c.if-h-plan.true in
    let within : c.in-Some.h < c.args.self.now.collider.plan.harts = omega (arith, harts, below) in
    only_due (setting_of c.args.self.now.collider) c.args.self.now.collider.entries c.in-Some.h (sym c.only_paused.ensures ∙ c.in-Some.is) within (sym c.has_lasted.ensures ∙ c.if-has_lasted.true)

pub returns-else-has_lasted-clause-value : goal.returns-else-has_lasted-clause-value
returns-else-has_lasted-clause-value c =
    only_undue (setting_of c.args.self.now.collider) c.args.self.now.collider.entries c.in-Some.h (sym c.only_paused.ensures ∙ c.in-Some.is) (sym c.has_lasted.ensures ∙ c.if-has_lasted.false)

pub has_lasted-requires-clause-paused : goal.has_lasted-requires-clause-paused
has_lasted-requires-clause-paused c =
    only_open c.args.self.now.collider.entries c.in-Some.h (sym c.only_paused.ensures ∙ c.in-Some.is)
