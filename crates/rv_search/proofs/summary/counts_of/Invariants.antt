-- the pauses so far are counted
use Rattle.std.proofs.Common.{◌≡◌, ◌≤◌, length, take}
use Rattle.rv_search.specs.Summary.{counts_of}
use Rattle.rv_search.proofs.summary.counts_of.Given as goal

abbrev pub invariant-loop-n : goal.invariant-loop-n
invariant-loop-n l = record {
  within : l.n ≤ length l.endings;
  counts : l.counts ≡ counts_of l.entries (take l.n l.endings);
}
