use Rattle.rv_search.proofs.RightLemmas.{wrong_next}
use Rattle.rv_search.proofs.end_runs.EndRuns.add.Goals as goal

pub loop-end-preserved : goal.loop-end-preserved
loop-end-preserved c =
    wrong_next c.args.ends.now c.loop-end.end-index _ c.args.self.now c.loop-end.self c.add_one.new.self c.loop-end-test.true c.loop-end.invariant c.in_ok-add_one.ensures
