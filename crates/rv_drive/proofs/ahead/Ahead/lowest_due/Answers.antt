use Rattle.std.proofs.Common.{ap, sym, ◌∙◌, arith}
use Rattle.rv_drive.specs.Able.{due, is_due}
use Rattle.rv_collide.specs.Plan.{Numbers}
use Rattle.rv_collide.specs.Stored.{setting_of}
use Rattle.rv_drive.proofs.RowLemmas.{find_here, find_none}
use Rattle.rv_drive.proofs.ahead.Ahead.lowest_due.Goals as goal

pub returns-then-is_due-clause-value : goal.returns-then-is_due-clause-value
unfolding due
returns-then-is_due-clause-value c =
    let harts = ap (λ (n : Numbers). n.harts) c.plan-h-end.ensures in
    let below = c.loop-h-test.true in
    sym (find_here (is_due (setting_of c.args.self.now.collider) c.args.self.now.collider.entries) 0 c.args.self.now.collider.plan.harts c.loop-h.h (omega arith) (omega arith) (sym c.is_due.ensures ∙ c.if-is_due.true) (λ k lo lt. c.loop-h.invariant k lt))

pub returns-clause-value : goal.returns-clause-value
unfolding due
returns-clause-value c =
    let harts = ap (λ (n : Numbers). n.harts) c.plan-h-end.ensures in
    let done = c.loop-h-test.false in
    sym (find_none (is_due (setting_of c.args.self.now.collider) c.args.self.now.collider.entries) 0 c.args.self.now.collider.plan.harts (λ k lo hi. c.loop-h.invariant k (omega arith)))
