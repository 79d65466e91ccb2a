use Rattle.std.proofs.Common.{◌∙◌, All, Some}
use Rattle.std.proofs.lemmas.List.Elements.{All-pop}
use Rattle.rv_remade.specs.internal.OrderShowing.{Full, IsOfPlace}
use Rattle.rv_remade.proofs.orders.take_run.Goals as goal

pub loop-trial-preserved : goal.loop-trial-preserved
loop-trial-preserved g c =
    let left : (full : Full) → All (IsOfPlace full) c.args.trials.items → All (IsOfPlace full) c.pop.new.self.items × IsOfPlace full c.in-Some.trial =
    λ full are. All-pop (IsOfPlace full) c.loop-trial.trials.items c.pop.new.self.items (Some c.in-Some.trial) c.in-Some.ensures.items (c.loop-trial.invariant.left full are)
    in
    record {
      left = λ full are. (left full are).0;
      known = λ full are before. c.put.ensures full (left full are).1 (c.loop-trial.invariant.known full are before);
      wanted = c.in_ok-save_copies.ensures ∙ c.loop-trial.invariant.wanted;
    }
