use Rattle.std.proofs.Common.{arith}
use Rattle.std.proofs.lemmas.Option.{slice_get-get_or}
use Rattle.rv_search.proofs.SummaryLemmas.{counted_next}
use Rattle.rv_search.proofs.summary.counts_of.Goals as goal

pub loop-n-preserved : goal.loop-n-preserved
loop-n-preserved c = record {
  within = (let below = c.loop-n-test.true in omega (arith, below));
  counts = counted_next c.args.entries.now c.args.endings.now c.loop-n.counts c.with_ending-counts.result c.loop-n.n _ c.with_ending-counts.ensures c.loop-n.invariant.counts (slice_get-get_or c.args.endings.now c.loop-n.n _ c.loop-n-test.true) (omega arith);
}
