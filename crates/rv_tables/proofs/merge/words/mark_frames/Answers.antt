use Rattle.std.proofs.Common.{◌∙◌}
use Rattle.rv_lines.specs.SourceLines.{frame_of}
use Rattle.rv_tables.proofs.WordLemmas.{frames_more}
use Rattle.rv_tables.proofs.merge.words.mark_frames.Goals as goal

pub loop-frame-preserved : goal.loop-frame-preserved
loop-frame-preserved c = (
  c.mark.ensures.count ∙ c.loop-frame.invariant.0,
  λ last others. c.loop-frame.invariant.1 last
      (frames_more c.args.words.now c.loop-frame.frames c.next_frame.new.self (frame_of c.in-Some.frame) c.in_ok-word.word c.loop-frame.marks.items c.mark.new.marks.items last
      c.in-Some.ensures.first c.next_frame.ensures.rest c.in_ok-word.ensures c.mark.ensures.marks others),
)
