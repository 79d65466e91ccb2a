use Rattle.std.proofs.Common.{refl}
use Rattle.rv_search.specs.Tally.{all_ended, ended_with}
use Rattle.rv_search.proofs.FoldLemmas.{folded_next}
use Rattle.rv_search.proofs.tally.ended.Ended.add_all.Goals as goal

pub loop-end-init : goal.loop-end-init
unfolding all_ended
loop-end-init c = refl

pub loop-end-preserved : goal.loop-end-preserved
unfolding all_ended
loop-end-preserved c =
    folded_next ended_with c.args.ends.now c.loop-end.end-index _ c.args.self.now c.loop-end.self c.add.new.self c.loop-end-test.true c.loop-end.invariant c.in_ok-add.ensures
