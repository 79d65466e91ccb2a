-- what is left of the runs, and what is shown so far
use Rattle.std.proofs.Common.{◌≡◌, All, length}
use Rattle.std.specs.Prelude.{is_some}
use Rattle.rv_remade.specs.internal.OrderShowing.{AreKnown, AreOfRun, Full}
use Rattle.rv_remade.proofs.orders.take_runs.Given as goal

abbrev pub invariant-loop-trials : goal.invariant-loop-trials
invariant-loop-trials g l = record {
  left : (full : Full) → All (AreOfRun full) l.initial.runs.items → All (AreOfRun full) l.runs.items;
  known : (full : Full) → All (AreOfRun full) l.initial.runs.items → AreKnown full l.initial.shown.items → AreKnown full l.shown.items;
  wanted : is_some l.folder ≡ is_some l.initial.folder;
}

abbrev pub decreases-loop-trials : goal.decreases-loop-trials
decreases-loop-trials g l = length l.runs.items
