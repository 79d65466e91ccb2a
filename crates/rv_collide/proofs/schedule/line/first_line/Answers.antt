use Rattle.std.proofs.Common.{arith}
use Rattle.rv_collide.proofs.CutLemmas.{lacks_from_all, cut_line, cut_rest, cut_long, uncut_short, uncut_long}
use Rattle.rv_collide.proofs.schedule.line.first_line.Goals as goal
use Rattle.rv_collide.proofs.schedule.line.first_line.Goals.{in_default-via-in-Some+else-line-le-MOST_LINE, in_default-via-in-None+else-text-le-MOST_LINE}

pub returns-in-Some-clause-line : goal.returns-in-Some-clause-line
returns-in-Some-clause-line c =
    let lacks = lacks_from_all 10 c.in-Some.line.now c.in-Some.ensures.0 in
    cut_line c.pieces_are_cut.ensures c.args.text.now c.in-Some.line.now c.in-Some.rest.now lacks c.in-Some.ensures.1 (omega arith)

pub returns-in-Some-clause-rest : goal.returns-in-Some-clause-rest
returns-in-Some-clause-rest c =
    let lacks = lacks_from_all 10 c.in-Some.line.now c.in-Some.ensures.0 in
    cut_rest c.pieces_are_cut.ensures c.args.text.now c.in-Some.line.now c.in-Some.rest.now lacks c.in-Some.ensures.1

pub returns-in-None-clause-err : goal.returns-in-None-clause-err
returns-in-None-clause-err c = uncut_short c.pieces_are_cut.ensures c.args.text.now (lacks_from_all 10 c.args.text.now c.in-None.ensures) (omega arith)

pub returns-in_default-clause-err : goal.returns-in_default-clause-err
returns-in_default-clause-err c =
    elim c.in_default.branch [
      | in_default-via-in-Some+else-line-le-MOST_LINE w ↦ cut_long c.pieces_are_cut.ensures c.args.text.now w.in-Some.line.now w.in-Some.rest.now (lacks_from_all 10 w.in-Some.line.now w.in-Some.ensures.0) w.in-Some.ensures.1 (omega arith)
      | in_default-via-in-None+else-text-le-MOST_LINE w ↦ uncut_long c.pieces_are_cut.ensures c.args.text.now (lacks_from_all 10 c.args.text.now w.in-None.ensures) (omega arith)
    ]
