use Rattle.std.proofs.Common.{length, ap, refl, sym, subst, ◌∙◌, arith}
use Rattle.rv_drive.specs.declared.ahead.Ahead.{Ahead}
use Rattle.rv_drive.specs.internal.Kept.{IsTurnOf}
use Rattle.rv_drive.proofs.TurnsLemmas.{picks_the_same, row_able, row_able_same, row_begins, row_goes_on, row_owed, row_turned, row_within, row_within_same}
use Rattle.rv_sample.specs.Generator.{word_at}
use Rattle.rv_drive.proofs.ahead.Ahead.row.Goals as goal

pub loop-next-init : goal.loop-next-init
loop-next-init g c =
    (row_begins c.args.self.now c.args.words.now c.next-taken.new.self c.picked-h.result c.undue-left.result c.requires.driver c.requires.some c.requires.undue c.picked-h.ensures c.next-taken.ensures.after c.undue-left.ensures.pauses c.undue-left.ensures.steps c.undue-left.ensures.few, c.requires.count, c.requires.free)

pub turn_quick-requires-clause-hart : goal.turn_quick-requires-clause-hart
turn_quick-requires-clause-hart g c = row_within c.args.self.now.collider c.args.words.now c.loop-next.words c.loop-next.self c.loop-next.h c.loop-next.left c.loop-next.invariant.0

pub turn_quick-requires-clause-able : goal.turn_quick-requires-clause-able
turn_quick-requires-clause-able g c = row_able c.args.self.now.collider c.args.words.now c.loop-next.words c.loop-next.self c.loop-next.h c.loop-next.left c.loop-next.invariant.0

pub loop-next-preserved : goal.loop-next-preserved
loop-next-preserved g c =
    let stays = c.in-Some.ensures.steps refl in
    let picked = picks_the_same c.loop-next.self c.turn_quick.new.self (word_at c.loop-next.words.seed c.loop-next.words.stream c.loop-next.words.taken) c.in-Some.next c.loop-next.invariant.0.ahead stays.ahead stays.same_able c.in-Some.ensures.next in (
      row_goes_on c.args.self.now.collider c.args.words.now c.loop-next.words c.next-taken-in-Some.new.self c.loop-next.self c.turn_quick.new.self c.loop-next.h c.in-Some.next c.loop-next.left c.loop-next.invariant.0
          (c.in-Some.ensures.more refl) stays picked c.next-taken-in-Some.ensures.after,
      c.loop-next.invariant.1 ∙ ap length (sym stays.same_able),
      λ off. c.in-Some.ensures.free refl (c.loop-next.invariant.2 off),
    )

pub end_turn-requires : goal.end_turn-requires
end_turn-requires g c =
    record { owed = row_owed c.args.self.now.collider c.args.words.now c.loop-next.words c.loop-next.self c.turn_quick.new.self c.loop-next.h c.loop-next.left c.loop-next.invariant.0 c.in_default.ensures.other }

pub take_last-requires-clause-hart : goal.take_last-requires-clause-hart
take_last-requires-clause-hart g c =
    row_within_same c.args.self.now.collider c.args.words.now c.loop-next.words c.loop-next.self c.turn_quick.new.self c.loop-next.h c.loop-next.left c.loop-next.invariant.0 (c.in_default.ensures.untried (omega (arith, c.if-left-eq0.true)))

pub take_last-requires-clause-able : goal.take_last-requires-clause-able
take_last-requires-clause-able g c =
    row_able_same c.args.self.now.collider c.args.words.now c.loop-next.words c.loop-next.self c.turn_quick.new.self c.loop-next.h c.loop-next.left c.loop-next.invariant.0 (c.in_default.ensures.untried (omega (arith, c.if-left-eq0.true)))

pub returns-then-left-eq0-clause-turns : goal.returns-then-left-eq0-clause-turns
returns-then-left-eq0-clause-turns g c =
    row_turned c.args.self.now.collider c.take_last.new.self.collider c.args.words.now c.loop-next.words c.loop-next.self c.loop-next.h c.loop-next.left c.loop-next.invariant.0
    (subst (λ (d : Ahead). IsTurnOf d.collider c.take_last.new.self.collider c.loop-next.h) (c.in_default.ensures.untried (omega (arith, c.if-left-eq0.true))) c.take_last.ensures.turns)

pub returns-else-left-eq0-clause-turns : goal.returns-else-left-eq0-clause-turns
returns-else-left-eq0-clause-turns g c =
    row_turned c.args.self.now.collider c.end_turn.new.self.collider c.args.words.now c.loop-next.words c.loop-next.self c.loop-next.h c.loop-next.left c.loop-next.invariant.0 (c.end_turn.ensures.turns c.loop-next.self c.in_default.ensures.other)
