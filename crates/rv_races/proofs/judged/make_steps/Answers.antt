use Rattle.std.proofs.Common.{◌<◌, length, arith}
use Rattle.rv_races.proofs.JudgedLemmas.{stepped_more}
use Rattle.rv_races.proofs.judged.make_steps.Goals as goal

pub loop-n-preserved : goal.loop-n-preserved
loop-n-preserved g c =
    let below : c.loop-n.n < length c.args.steps.now = omega arith in
    stepped_more c.args.machine.now.state c.loop-n.machine.state c.make_step.new.machine.state c.args.steps.now c.loop-n.n 0 below c.loop-n.invariant c.in_ok-make_step.ensures.on
