use Rattle.std.proofs.Common.{◌≡◌, ◌<◌, true, ap, subst, sym, ◌∙◌, arith}
use Rattle.rv_collide.specs.Plan.{Numbers}
use Rattle.rv_collide.specs.Stored.{setting_of}
use Rattle.rv_drive.specs.Able.{is_able}
use Rattle.rv_drive.specs.declared.ahead.Ahead.{Ahead}
use Rattle.rv_drive.specs.internal.Kept.{IsAhead}
use Rattle.rv_drive.proofs.TurnsLemmas.{owed_full, owed_pause, owed_plan, paused_ahead, unstepped_harts, unstepped_same}
use Rattle.rv_drive.proofs.ahead.Ahead.end_turn.Goals as goal

pub hold-requires-clause-hart : goal.hold-requires-clause-hart
hold-requires-clause-hart c =
    let harts = ap (λ (n : Numbers). n.harts) c.plan-plan.ensures in
    let most = c.plan-plan.result.in_range.harts in
    let within = c.requires.owed.within in
    let plan = owed_plan c.args.self.now c.args.h c.requires.owed in
    let below : c.args.h < 16 = (let same = ap (λ (n : Numbers). n.harts) plan in omega (arith, same, harts, most, within)) in
    below

pub hold-requires-clause-harts : goal.hold-requires-clause-harts
hold-requires-clause-harts c =
    unstepped_harts c.requires.owed.before c.args.self.now c.args.h c.requires.owed.ahead c.requires.owed.unstepped

pub returns-then-is_open-clause-driver : goal.returns-then-is_open-clause-driver
returns-then-is_open-clause-driver c =
    let harts = ap (λ (n : Numbers). n.harts) c.plan-plan.ensures in
    let most = c.plan-plan.result.in_range.harts in
    let within = c.requires.owed.within in
    let plan = owed_plan c.args.self.now c.args.h c.requires.owed in
    let below : c.args.h < 16 = (let same = ap (λ (n : Numbers). n.harts) plan in omega (arith, same, harts, most, within)) in
    let others = c.hold.ensures.others in
    paused_ahead c.open_pauses.ensures c.longer_lists.ensures.stay c.requires.owed.before c.args.self.now c.hold.new.self c.args.h below c.requires.owed.ahead c.requires.owed.is_able c.requires.owed.unstepped (sym c.is_open.ensures ∙ c.if-is_open.true)
    (record {
      made_at = c.hold.ensures.made_at;
      able_are = c.hold.ensures.able;
      room = c.hold.ensures.room;
      sooner = c.hold.ensures.sooner;
      end = c.hold.ensures.end;
      core = ap (λ (d : Ahead). d.collider) others;
      made = ap (λ (d : Ahead). d.made) others;
    })

pub returns-then-is_open-clause-turns : goal.returns-then-is_open-clause-turns
returns-then-is_open-clause-turns c =
    owed_pause c.args.self.now c.hold.new.self c.args.h (sym c.is_open.ensures ∙ c.if-is_open.true) (ap (λ (d : Ahead). d.collider) c.hold.ensures.others)

pub turn_in_full-requires-clause-driver : goal.turn_in_full-requires-clause-driver
turn_in_full-requires-clause-driver c =
    subst IsAhead (sym (unstepped_same c.requires.owed.before c.args.self.now c.args.h c.requires.owed.unstepped (sym c.is_open.ensures ∙ c.if-is_open.false))) c.requires.owed.ahead

pub turn_in_full-requires-clause-hart : goal.turn_in_full-requires-clause-hart
turn_in_full-requires-clause-hart c =
    subst (λ (d : Ahead). c.args.h < d.collider.plan.harts) (sym (unstepped_same c.requires.owed.before c.args.self.now c.args.h c.requires.owed.unstepped (sym c.is_open.ensures ∙ c.if-is_open.false))) c.requires.owed.within

pub turn_in_full-requires-clause-able : goal.turn_in_full-requires-clause-able
turn_in_full-requires-clause-able c =
    subst (λ (d : Ahead). is_able (setting_of d.collider) d.collider.entries c.args.h ≡ true) (sym (unstepped_same c.requires.owed.before c.args.self.now c.args.h c.requires.owed.unstepped (sym c.is_open.ensures ∙ c.if-is_open.false))) c.requires.owed.is_able

pub returns-else-is_open-clause-turns : goal.returns-else-is_open-clause-turns
returns-else-is_open-clause-turns c =
    owed_full c.args.self.now c.turn_in_full.new.self c.args.h (sym c.is_open.ensures ∙ c.if-is_open.false) c.turn_in_full.ensures.turns
