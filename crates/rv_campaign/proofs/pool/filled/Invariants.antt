use Rattle.std.proofs.Common.{◌≡◌, All, length}
use Rattle.rv_campaign.specs.internal.Slots.{AreSlots}
use Rattle.rv_campaign.proofs.pool.filled.Given as goal

abbrev pub invariant-loop-one : goal.invariant-loop-one
invariant-loop-one g l = record {
  left : All (λ one. g.J.Jobs.makes l.jobs one.place one.made) l.done.items;
  slots : AreSlots (g.J.Jobs.makes l.jobs) l.slots.items;
  count : length l.slots.items ≡ g.J.Jobs.jobs l.jobs;
}

abbrev pub decreases-loop-one : goal.decreases-loop-one
decreases-loop-one g l = length l.done.items
