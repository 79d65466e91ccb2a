-- the runs before the place are added; before the first of them the hunt goes on
use Rattle.std.proofs.Common.{◌≡◌, ◌+◌, true}
use Rattle.rv_search.specs.Hunted.{IsNotedSoFar, is_due}
use Rattle.rv_search.proofs.hunt.Hunt.add_lot.Given as goal

abbrev pub invariant-loop-place : goal.invariant-loop-place
invariant-loop-place g l = record {
  so_far : IsNotedSoFar l.self l.hunted l.noted.ends;
  right : l.noted.ends.right ≡ l.initial.noted.ends.right;
  runs : l.hunted.tally.runs ≡ l.initial.hunted.tally.runs + l.place;
  first : l.place ≡ 0 → is_due l.self l.hunted.tally ≡ true;
}
