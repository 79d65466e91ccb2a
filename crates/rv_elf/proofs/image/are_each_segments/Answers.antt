use Rattle.std.proofs.Common.{refl, sym, subst}
use Rattle.std.proofs.lemmas.List.{take_all}
use Rattle.std.proofs.lemmas.List.Elements.{All-same, All-more}
use Rattle.rv_elf.specs.Contents.{IsSegment}
use Rattle.rv_elf.proofs.image.are_each_segments.Goals as goal

pub loop-region-preserved : goal.loop-region-preserved
loop-region-preserved c =
    All-more IsSegment c.args.regions.now c.loop-region.region-index c.region-item.result c.loop-region-test.true c.loop-region.invariant (subst IsSegment c.region-item.is (c.is_segment.ensures.0 c.if-not-is_segment.false))

pub returns : goal.returns
returns c =
    (λ _. All-same IsSegment c.args.regions.now _ (sym (take_all c.loop-region.region-index c.args.regions.now c.loop-region-test.false)) c.loop-region.invariant, λ _. refl)
