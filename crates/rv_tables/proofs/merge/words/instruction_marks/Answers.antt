use Rattle.rv_tables.proofs.WordLemmas.{marks_with, marks_without}
use Rattle.rv_tables.proofs.merge.words.instruction_marks.Goals as goal

pub returns-in_default-clause-marks : goal.returns-in_default-clause-marks
returns-in_default-clause-marks c = marks_without c.args.words.now c.args.symbols.now c.args.at c.in_ok-marks.marks.items c.in_default.is c.in_ok-marks.ensures.marks

pub returns-clause-marks : goal.returns-clause-marks
returns-clause-marks c =
    marks_with c.args.words.now c.requires.numbered c.args.symbols.now c.args.at c.in-Some.address c.frames_at.result c.in_ok-marks.marks.items c.mark_frames.new.marks.items
    c.in-Some.is c.frames_at.ensures c.in_ok-marks.ensures.marks c.in_ok-mark_frames.ensures.marks
