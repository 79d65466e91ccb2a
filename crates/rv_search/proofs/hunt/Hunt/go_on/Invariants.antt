-- the runs so far are those of the hunt
use Rattle.std.proofs.Common.{◌≡◌, ◌-◌, ◌^◌}
use Rattle.rv_search.specs.Hunted.{IsNotedSoFar}
use Rattle.rv_search.proofs.hunt.Hunt.go_on.Given as goal

abbrev pub invariant-loop-alloc : goal.invariant-loop-alloc
invariant-loop-alloc g l = record {
  so_far : IsNotedSoFar l.self l.hunted l.noted.ends;
  right : l.noted.ends.right ≡ l.initial.noted.ends.right;
}

abbrev pub decreases-loop-alloc : goal.decreases-loop-alloc
decreases-loop-alloc g l = 2 ^ 32 - l.hunted.tally.runs
