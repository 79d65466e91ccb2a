use Rattle.std.proofs.Common.{length, ap, sym, ◌∙◌, arith}
use Rattle.std.specs.Prelude.{nat_lt}
use Rattle.rv_collide.specs.Plan.{Numbers}
use Rattle.rv_collide.specs.Stored.{Stored, setting_of}
use Rattle.rv_drive.specs.Able.{is_able}
use Rattle.rv_drive.proofs.RowLemmas.{count_bound}
use Rattle.rv_drive.specs.declared.ahead.Ahead.{Ahead}
use Rattle.rv_drive.proofs.NotingLemmas.{all_noted, no_pauses, noted_more, unpaused_ahead}
use Rattle.rv_drive.proofs.ahead.Ahead.look.Goals as goal

pub note-requires-clause-room : goal.note-requires-clause-room
note-requires-clause-room c =
    let noted = c.loop-h.invariant.noted in
    let bound = count_bound (is_able (setting_of c.loop-h.self.collider) c.loop-h.self.collider.entries) 0 c.loop-h.h in
    let found = ap length noted.found in
    let room = noted.room in
    let below = c.loop-h-test.true in
    let most = c.plan-plan.result.in_range.harts in
    omega (arith, bound, found)

pub loop-h-preserved : goal.loop-h-preserved
loop-h-preserved c = record {
  noted = noted_more c.loop-h.self c.note.new.self c.loop-h.h c.loop-h.invariant.noted c.note.ensures.able c.note.ensures.room c.note.ensures.sooner c.note.ensures.end c.note.ensures.others;
  left = c.loop-h.invariant.left ∙ ap (λ (d : Ahead). nat_lt d.made d.collider.plan.steps) (sym c.note.ensures.others);
  collider = ap (λ (d : Ahead). d.collider) c.note.ensures.others ∙ c.loop-h.invariant.collider;
}

pub returns-clause-driver : goal.returns-clause-driver
returns-clause-driver c =
    let harts = ap (λ (n : Numbers). n.harts) c.plan-plan.ensures in
    let same = ap (λ (s : Stored). s.plan.harts) c.loop-h.invariant.collider in
    let done = c.loop-h-test.false in
    let last = c.loop-h.auto.h-end in
    all_noted c.loop-h.self c.loop-h.h c.loop-h.invariant.noted (omega arith)

pub returns-then-none_paused-clause-driver : goal.returns-then-none_paused-clause-driver
returns-then-none_paused-clause-driver c =
    let room = c.requires.room in
    let cleared = c.clear.ensures.capacity in
    let noted = c.note_running.ensures.room in
    unpaused_ahead _ (no_pauses c.args.self.now.collider.entries (sym c.none_paused.ensures ∙ c.if-none_paused.true)) c.requires.kept c.note_running.ensures.able (omega (arith, room, cleared, noted))

pub note_running-requires-clause-unpaused : goal.note_running-requires-clause-unpaused
note_running-requires-clause-unpaused c = no_pauses c.args.self.now.collider.entries (sym c.none_paused.ensures ∙ c.if-none_paused.true)
