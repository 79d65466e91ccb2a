use Rattle.std.proofs.Common.{◌≡◌, count_by, min, take}
use Rattle.rv_collide.specs.Armed.{arms}
use Rattle.rv_collide.specs.declared.plan.TheConstants.{MOST_ARMS}
use Rattle.rv_collide.proofs.join.arms_made.Given as goal

abbrev pub invariant-loop-entry : goal.invariant-loop-entry
invariant-loop-entry l = l.made ≡ min MOST_ARMS (count_by arms (take l.entry-index l.entries))
