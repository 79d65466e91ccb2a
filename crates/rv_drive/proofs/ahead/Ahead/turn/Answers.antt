use Rattle.std.proofs.Common.{◌+◌, ◌<◌, ◌≤◌, length, ap, subst, sym, ◌∙◌, arith}
use Rattle.rv_collide.specs.Plan.{Numbers}
use Rattle.rv_collide.specs.Stored.{Stored, setting_of}
use Rattle.rv_drive.specs.declared.ahead.Ahead.{Ahead}
use Rattle.rv_drive.specs.internal.Kept.{IsAhead, IsKept}
use Rattle.rv_collide.specs.Next.{runs_at}
use Rattle.rv_drive.proofs.AheadLemmas.{driver_step}
use Rattle.rv_drive.proofs.KeptLemmas.{is_ready, kept_step, not_refused}
use Rattle.rv_drive.proofs.NotingLemmas.{held_ahead}
use Rattle.rv_drive.proofs.ahead.Ahead.turn.Goals as goal

pub overflow_add-self : goal.overflow_add-self
overflow_add-self c =
    let left = (is_ready (setting_of c.args.self.now.collider) c.args.self.now.collider.entries c.args.h c.requires.able).left in
    let made = c.requires.driver.kept.made_is in
    let steps = ap (λ (n : Numbers). n.steps) c.plan-plan.ensures in
    let most = c.plan-plan.result.in_range.steps in
    omega arith

pub unreachable-requires : goal.unreachable-requires
unreachable-requires c =
    not_refused c.args.self.now.collider c.args.h c.in-Err.field-0 c.in-Err.ensures.err
    (c.accepted_calls.ensures.able (setting_of c.args.self.now.collider) c.args.self.now.collider.entries c.args.h c.requires.able c.requires.hart)

pub look-requires-clause-kept : goal.look-requires-clause-kept
look-requires-clause-kept c =
    let turns = rw c.in-Ok-Stepped.field-0-is at c.in-Ok-Stepped.ensures.ok in
    subst (λ (s : Stored). IsKept s.entries (c.args.self.now.made + 1) c.args.self.now.made_at) (sym turns.0.is_added)
    (kept_step c.open_pauses.ensures c.args.self.now.collider.entries c.args.self.now.made c.args.self.now.made_at c.args.h (is_ready (setting_of c.args.self.now.collider) c.args.self.now.collider.entries c.args.h c.requires.able).free c.requires.driver.kept)

pub returns-else-not-runs-clause-driver : goal.returns-else-not-runs-clause-driver
returns-else-not-runs-clause-driver c =
    let turns = rw c.in-Ok-Stepped.field-0-is at c.in-Ok-Stepped.ensures.ok in
    let steps = ap (λ (n : Numbers). n.steps) c.plan-plan.ensures in
    let goes = ap (λ (s : Stored). runs_at (setting_of s).start s.entries (length s.entries) c.args.h) (sym turns.0.is_added) ∙ sym c.runs.ensures ∙ c.if-not-runs.false in
    subst (λ (s : Stored). IsAhead (record c.args.self.now { collider = s; made = c.args.self.now.made + 1 })) (sym turns.0.is_added)
    (driver_step c.open_pauses.ensures c.what_no_step_does.ensures.other_harts c.args.self.now c.args.h _ c.requires.driver c.requires.able turns.1 goes (omega arith))

pub hold-requires-clause-hart : goal.hold-requires-clause-hart
hold-requires-clause-hart c =
    let harts = ap (λ (n : Numbers). n.harts) c.plan-plan.ensures in
    let most = c.plan-plan.result.in_range.harts in
    let below = c.requires.hart in
    omega arith

pub returns-in-Ok-Paused-clause-driver : goal.returns-in-Ok-Paused-clause-driver
returns-in-Ok-Paused-clause-driver c =
    let turns = rw c.in-Ok-Paused.field-0-is at c.in-Ok-Paused.ensures.ok in
    let harts = ap (λ (n : Numbers). n.harts) c.plan-plan.ensures in
    let most = c.plan-plan.result.in_range.harts in
    let below : c.args.h < 16 = (let hart = c.requires.hart in omega arith) in
    let same = c.hold.ensures.others in
    held_ahead c.open_pauses.ensures c.longer_lists.ensures.stay c.args.self.now c.hold.new.self c.args.h c.in-Ok-Paused.slot below (is_ready (setting_of c.args.self.now.collider) c.args.self.now.collider.entries c.args.h c.requires.able).free c.requires.driver
    (ap (λ (d : Ahead). d.collider) same ∙ turns.is_added) (ap (λ (d : Ahead). d.made) same) c.hold.ensures.made_at c.hold.ensures.able c.hold.ensures.room c.hold.ensures.sooner (subst (λ (s : Stored). c.hold.new.self.earliest ≤ c.args.self.now.made + s.plan.pause) turns.is_added c.hold.ensures.end)
