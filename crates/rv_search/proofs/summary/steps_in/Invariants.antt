use Rattle.std.proofs.Common.{◌≡◌, ◌≤◌, length, take}
use Rattle.rv_collide.specs.Entries.{steps}
use Rattle.rv_search.proofs.summary.steps_in.Given as goal

abbrev pub invariant-loop-n : goal.invariant-loop-n
invariant-loop-n l = record {
  within : l.n ≤ length l.entries;
  steps : l.steps ≡ length (steps (take l.n l.entries));
  few : l.steps ≤ l.n;
}
