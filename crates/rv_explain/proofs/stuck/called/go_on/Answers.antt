use Rattle.rv_explain.proofs.StuckLemmas.{run_again}
use Rattle.rv_explain.proofs.stuck.called.go_on.Goals as goal

pub loop-made-preserved : goal.loop-made-preserved
loop-made-preserved c = run_again c.args.machine.now.state c.loop-made.machine.state c.step.new.self.state c.args.hart c.loop-made._made _ c.loop-made.invariant c.in-Ok.ensures.step
