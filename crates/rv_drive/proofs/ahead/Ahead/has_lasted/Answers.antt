use Rattle.std.proofs.Common.{ℕ, ◌-◌, ◌≤◌, ◌<◌, ap, sym, ◌∙◌, arith, get_or}
use Rattle.std.specs.Prelude.{◌||◌, not, slice_index}
use Rattle.rv_drive.specs.Able.{another_is_able}
use Rattle.rv_collide.specs.Plan.{Numbers}
use Rattle.rv_collide.specs.Stored.{setting_of}
use Rattle.rv_drive.proofs.DueLemmas.{by_count, le_is, le_not}
use Rattle.rv_drive.proofs.NotingLemmas.{no_other}
use Rattle.rv_drive.proofs.ahead.Ahead.has_lasted.Goals as goal

pub returns-then-plan-since : goal.returns-then-plan-since
returns-then-plan-since c =
    let pause = ap (λ (n : Numbers). n.pause) c.plan.ensures in
    let at = ap (λ (k : ℕ). c.args.self.now.made - get_or c.args.self.now.made_at k 0) c.from.ensures in
    let since = c.saturating_sub-since.ensures ∙ at in
    let long = c.if-plan-since.true in
    let enough : c.args.self.now.collider.plan.pause ≤ c.args.self.now.made - slice_index c.args.self.now.made_at c.args.h = omega arith in
    le_is c.plan.result.pause c.saturating_sub-since.result long
    ∙ sym (by_count (setting_of c.args.self.now.collider) c.args.self.now.collider.entries c.args.self.now.made c.args.self.now.made_at c.args.h c.requires.driver.kept c.requires.paused
    ∙ ap (λ b. b || not (another_is_able (setting_of c.args.self.now.collider) c.args.self.now.collider.entries c.args.h)) (le_is c.args.self.now.collider.plan.pause (c.args.self.now.made - slice_index c.args.self.now.made_at c.args.h) enough))

pub returns-else-plan-since : goal.returns-else-plan-since
returns-else-plan-since c =
    let pause = ap (λ (n : Numbers). n.pause) c.plan.ensures in
    let at = ap (λ (k : ℕ). c.args.self.now.made - get_or c.args.self.now.made_at k 0) c.from.ensures in
    let since = c.saturating_sub-since.ensures ∙ at in
    let short = c.if-plan-since.false in
    let few : c.args.self.now.made - slice_index c.args.self.now.made_at c.args.h < c.args.self.now.collider.plan.pause = omega arith in
    c.is_empty.ensures ∙ no_other (setting_of c.args.self.now.collider) c.args.self.now.collider.entries c.args.h _ c.args.self.now.able.items c.requires.paused c.requires.driver.able_are c.args.self.now.able.ok.0
    ∙ sym (by_count (setting_of c.args.self.now.collider) c.args.self.now.collider.entries c.args.self.now.made c.args.self.now.made_at c.args.h c.requires.driver.kept c.requires.paused
    ∙ ap (λ b. b || not (another_is_able (setting_of c.args.self.now.collider) c.args.self.now.collider.entries c.args.h)) (le_not c.args.self.now.collider.plan.pause (c.args.self.now.made - slice_index c.args.self.now.made_at c.args.h) few))
