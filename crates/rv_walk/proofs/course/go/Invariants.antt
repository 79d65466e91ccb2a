use Rattle.std.specs.Prelude.{◌≡◌, ◌+◌, ◌*◌, ◌-◌, ◌≤◌, length}
use Rattle.rv_walk.specs.Walked.{GoesOn}
use Rattle.rv_walk.proofs.course.go.Given as goal

abbrev pub invariant-bursts : goal.invariant-bursts
invariant-bursts g l = record {
  on : GoesOn l.initial.walk l.walk;
  words : l.words ≡ record l.initial.words { taken = l.words.taken };
  taken : l.words.taken + 2 * length l.initial.walk.harts ≤ l.initial.words.taken + 2 * length l.walk.harts;
}

abbrev pub decreases-bursts : goal.decreases-bursts
decreases-bursts g l = l.walk.most - length l.walk.harts
