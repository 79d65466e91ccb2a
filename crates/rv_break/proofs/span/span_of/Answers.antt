use Rattle.std.proofs.Common.{None}
use Rattle.rv_break.proofs.Outside.{are_in_more}
use Rattle.rv_break.proofs.span.span_of.Goals as goal

pub loop-held-preserved : goal.loop-held-preserved
loop-held-preserved c =
    are_in_more c.loop-held.span c.widened-span.result c.args.claims.now c.loop-held.held-index None c.loop-held-test.true c.widened-span.ensures.first c.widened-span.ensures.end c.widened-span.ensures.held c.loop-held.invariant
