-- what is left of the trials, and what is shown so far
use Rattle.std.proofs.Common.{◌≡◌, All, length}
use Rattle.std.specs.Prelude.{is_some}
use Rattle.rv_remade.specs.internal.OrderShowing.{AreKnown, Full, IsOfPlace}
use Rattle.rv_remade.proofs.orders.take_run.Given as goal

abbrev pub invariant-loop-trial : goal.invariant-loop-trial
invariant-loop-trial g l = record {
  left : (full : Full) → All (IsOfPlace full) l.initial.trials.items → All (IsOfPlace full) l.trials.items;
  known : (full : Full) → All (IsOfPlace full) l.initial.trials.items → AreKnown full l.initial.shown.items → AreKnown full l.shown.items;
  wanted : is_some l.folder ≡ is_some l.initial.folder;
}

abbrev pub decreases-loop-trial : goal.decreases-loop-trial
decreases-loop-trial g l = length l.trials.items
