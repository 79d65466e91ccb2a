use Rattle.std.proofs.Common.{◌∙◌}
use Rattle.rv_tables.proofs.WordLemmas.{lines_more}
use Rattle.rv_tables.proofs.merge.words.mark_all.Goals as goal

pub loop-number-preserved : goal.loop-number-preserved
loop-number-preserved c = (
  c.in_ok-mark_frames.ensures.count ∙ c.loop-number.invariant.0,
  lines_more c.args.words.now c.args.lines.now c.loop-number.number c.frames_of.result c.args.marks.now.items c.loop-number.marks.items c.mark_frames.new.marks.items
      (rw c.count-number-end.ensures at c.loop-number-test.true) c.frames_of.ensures c.loop-number.invariant.1 c.in_ok-mark_frames.ensures.marks,
)
