-- the entries so far
use Rattle.std.proofs.Common.{◌≡◌, ◌-◌, ◌≤◌, take}
use Rattle.rv_collide.specs.Stored.{stored}
use Rattle.rv_collide.proofs.replay.replay_up_to.Given as goal

abbrev pub invariant-loop-i : goal.invariant-loop-i
invariant-loop-i g l = record {
  told : l.collider ≡ stored l.fn.collider.image l.fn.collider.plan (take l.i l.entries);
  within : l.i ≤ l.until;
}

abbrev pub decreases-loop-i : goal.decreases-loop-i
decreases-loop-i g l = l.until - l.i
