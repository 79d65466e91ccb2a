use Rattle.std.proofs.Common.{None}
use Rattle.rv_break.proofs.Outside.{claimed_within}
use Rattle.rv_break.proofs.slots.Slots.claim.Goals as goal

pub invariant_of-self : goal.invariant_of-self
invariant_of-self c =
    claimed_within c.self.inside.watched c.widened_by-self-inside.result c.self.inside.claims.items c.in_ok-slot.slot (record { hart = c.args.hart; access = c.args.access; seen = None }) c.widened_by-self-inside.ensures.first c.widened_by-self-inside.ensures.end c.widened_by-self-inside.ensures.own c.self.invariant
