use Rattle.std.proofs.Common.{true, false, sym, ◌∙◌}
use Rattle.std.proofs.lemmas.List.{append-nil}
use Rattle.rv_collide.specs.Stored.{setting_of}
use Rattle.rv_drive.specs.Able.{is_able}
use Rattle.rv_drive.proofs.NotingLemmas.{added_where, able_when, not_left, not_open, not_running}
use Rattle.rv_drive.proofs.ahead.Ahead.note.Goals as goal
use Rattle.rv_drive.proofs.ahead.Ahead.note.Goals.{else-are_left-via-then-are_left+else-runs, else-are_left-via-else-are_left}

pub returns-then-is_open-clause-able : goal.returns-then-is_open-clause-able
returns-then-is_open-clause-able c =
    added_where c.args.self.now.able.items c.args.h (is_able (setting_of c.args.self.now.collider) c.args.self.now.collider.entries c.args.h) false
    (not_open (setting_of c.args.self.now.collider) c.args.self.now.collider.entries c.args.h (sym c.is_open.ensures ∙ c.if-is_open.true))
    (sym (append-nil c.args.self.now.able.items))

pub returns-then-runs-clause-able : goal.returns-then-runs-clause-able
returns-then-runs-clause-able c =
    added_where c.args.self.now.able.items c.args.h (is_able (setting_of c.args.self.now.collider) c.args.self.now.collider.entries c.args.h) true
    (sym (able_when (setting_of c.args.self.now.collider) c.args.self.now.collider.entries c.args.h c.args.self.now.made false true true (sym c.if-is_open.false ∙ c.is_open.ensures) (sym c.if-runs.true ∙ c.runs.ensures) (sym c.if-are_left.true ∙ c.requires.left) c.requires.kept.made_is))
    c.push_reserved.ensures.items

pub returns-else-are_left-clause-able : goal.returns-else-are_left-clause-able
returns-else-are_left-clause-able c =
    added_where c.args.self.now.able.items c.args.h (is_able (setting_of c.args.self.now.collider) c.args.self.now.collider.entries c.args.h) false
    (elim c.else-are_left.branch [
      | else-are_left-via-then-are_left+else-runs w ↦ not_running (setting_of c.args.self.now.collider) c.args.self.now.collider.entries c.args.h (sym w.runs.ensures ∙ w.if-runs.false)
      | else-are_left-via-else-are_left w ↦ not_left (setting_of c.args.self.now.collider) c.args.self.now.collider.entries c.args.h c.args.self.now.made (sym c.requires.left ∙ w.if-are_left.false) c.requires.kept.made_is
    ])
    (sym (append-nil c.args.self.now.able.items))
