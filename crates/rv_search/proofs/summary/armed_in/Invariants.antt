use Rattle.std.proofs.Common.{◌≡◌, ◌≤◌, length, take}
use Rattle.rv_search.specs.Summary.{armed_in}
use Rattle.rv_search.proofs.summary.armed_in.Given as goal

abbrev pub invariant-loop-n : goal.invariant-loop-n
invariant-loop-n l = record {
  within : l.n ≤ length l.entries;
  armed : l.armed.items ≡ armed_in (take l.n l.entries);
}
