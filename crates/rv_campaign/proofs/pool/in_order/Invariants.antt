use Rattle.std.proofs.Common.{◌≡◌, ◌≤◌, length}
use Rattle.rv_campaign.proofs.SlotLemmas.{Each}
use Rattle.rv_campaign.specs.internal.Slots.{AreSlots}
use Rattle.rv_campaign.proofs.pool.in_order.Given as goal

abbrev pub invariant-loop-place : goal.invariant-loop-place
invariant-loop-place g l = record {
  within : l.place ≤ g.J.Jobs.jobs l.jobs;
  count : length l.made.items ≡ l.place;
  slots_count : length l.slots.items ≡ g.J.Jobs.jobs l.jobs;
  slots : AreSlots (g.J.Jobs.makes l.jobs) l.slots.items;
  made : Each (g.J.Jobs.makes l.jobs) l.made.items;
}
