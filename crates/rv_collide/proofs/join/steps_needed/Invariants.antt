use Rattle.std.proofs.Common.{◌≡◌, ◌≤◌, drop, length, min}
use Rattle.rv_collide.specs.Joined.{steps_needed}
use Rattle.rv_collide.specs.declared.plan.TheConstants.{MOST_STEPS}
use Rattle.rv_collide.proofs.join.steps_needed.Given as goal

abbrev pub invariant-loop-place : goal.invariant-loop-place
invariant-loop-place l = record {
  within : l.place ≤ length l.entries;
  counted : l.needed ≡ min MOST_STEPS (steps_needed (drop l.place l.entries));
}

abbrev pub decreases-loop-place : goal.decreases-loop-place
decreases-loop-place l = l.place
