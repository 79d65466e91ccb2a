use Rattle.std.proofs.Common.{arith, rules}
use Rattle.std.proofs.lemmas.Option.{slice_get-get_or}
use Rattle.rv_collide.specs.Entries.{stepped_hart, steps}
use Rattle.rv_search.proofs.SummaryLemmas.{counted_more}
use Rattle.rv_search.proofs.summary.steps_in.Goals as goal

pub loop-n-init : goal.loop-n-init
unfolding steps
loop-n-init c = search rules

pub loop-n-preserved : goal.loop-n-preserved
unfolding steps
loop-n-preserved c =
    let entries = c.args.entries.now in
    record {
      within = (let below = c.loop-n-test.true in omega (arith, below));
      steps = counted_more stepped_hart entries c.loop-n.steps c.steps_at-steps.result c.loop-n.n _ c.steps_at-steps.ensures.value c.loop-n.invariant.steps (slice_get-get_or entries c.loop-n.n _ c.loop-n-test.true);
      few = (let before = c.loop-n.invariant.few in let one = c.steps_at-steps.ensures.few in omega (arith, before, one));
    }
