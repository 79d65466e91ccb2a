use Rattle.std.proofs.Common.{◌∙◌, All, Some}
use Rattle.std.proofs.lemmas.List.Elements.{All-pop}
use Rattle.rv_remade.specs.internal.OrderShowing.{AreOfRun, Full}
use Rattle.rv_remade.proofs.orders.take_runs.Goals as goal

pub loop-trials-preserved : goal.loop-trials-preserved
loop-trials-preserved g c =
    let left : (full : Full) → All (AreOfRun full) c.args.runs.items → All (AreOfRun full) c.pop.new.self.items × AreOfRun full c.in-Some.trials =
    λ full are. All-pop (AreOfRun full) c.loop-trials.runs.items c.pop.new.self.items (Some c.in-Some.trials) c.in-Some.ensures.items (c.loop-trials.invariant.left full are)
    in
    record {
      left = λ full are. (left full are).0;
      known = λ full are before. c.in_ok-take_run.ensures.known full (left full are).1 (c.loop-trials.invariant.known full are before);
      wanted = c.in_ok-take_run.ensures.wanted ∙ c.loop-trials.invariant.wanted;
    }
