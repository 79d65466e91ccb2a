-- the endings so far
use Rattle.std.proofs.Common.{◌≡◌, ◌≤◌, take}
use Rattle.rv_collide.specs.Stored.{setting_of}
use Rattle.rv_collide.specs.Verdict.{endings}
use Rattle.rv_engines.proofs.run.runs.endings.Given as goal

abbrev pub invariant-loop-n : goal.invariant-loop-n
invariant-loop-n l = record {
  within : l.n ≤ l.n-end;
  so_far : l.kept.items ≡ take l.n (endings (setting_of l.core).start l.core.entries);
}
