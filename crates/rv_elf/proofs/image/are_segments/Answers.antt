use Rattle.std.proofs.Common.{sym, ◌∙◌}
use Rattle.rv_elf.proofs.Facts.{segments_from, segments_back}
use Rattle.rv_elf.proofs.image.are_segments.Goals as goal

pub returns : goal.returns
returns c = (
  λ yes. segments_from c.args.entry c.args.regions.now c.segments_test.result c.if-regions-gt64.false (c.are_each_segments.ensures.0 c.if-not-are_each_segments.false) c.segments_test.ensures (sym c.is_ok.ensures.value ∙ yes),
  λ image. c.is_ok.ensures.value ∙ segments_back c.args.entry c.args.regions.now c.segments_test.result c.segments_test.ensures image,
)
