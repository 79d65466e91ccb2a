use Rattle.std.proofs.Common.{arith}
use Rattle.rv_collide.specs.Stored.{setting_of}
use Rattle.rv_search.proofs.SummaryLemmas.{all_ended, ended_next}
use Rattle.rv_search.proofs.summary.ends_of.Goals as goal

pub loop-h-preserved : goal.loop-h-preserved
loop-h-preserved c = record {
  within = (let below = c.loop-h-test.true in omega (arith, below));
  so_far = ended_next c.machine-machine.result.now.state.harts c.loop-h.ends.items c.push.new.self.items c.loop-h.h c.status.result c.pc.result c.end_with.result c.status.ensures c.pc.ensures c.in_ok-push.ensures.items c.loop-h.invariant.so_far c.end_with.ensures;
}

pub returns : goal.returns
returns c =
    let over = c.loop-h-test.false in
    let count = c.harts-h-end.ensures.value in
    all_ended (setting_of c.args.core.now).start c.machine-machine.result.now.state c.args.core.now.entries c.loop-h.ends.items c.loop-h.h c.machine-machine.ensures c.loop-h.invariant.so_far (omega (arith, over, count))
