use Rattle.std.proofs.Common.{◌∙◌, ap, length, Some}
use Rattle.std.proofs.lemmas.List.{length-replicate, length-set}
use Rattle.std.proofs.lemmas.List.Elements.{All-pop}
use Rattle.rv_campaign.proofs.SlotLemmas.{empty, filled_one}
use Rattle.rv_campaign.proofs.pool.filled.Goals as goal

pub loop-one-init : goal.loop-one-init
loop-one-init g c = record {
  left = c.requires;
  slots = empty (g.J.Jobs.makes c.args.jobs.now) c.in_ok-slots.slots.items _ c.in_ok-slots.ensures;
  count = ap length c.in_ok-slots.ensures ∙ length-replicate _ _ ∙ c.count.ensures;
}

pub loop-one-preserved : goal.loop-one-preserved
loop-one-preserved g c =
    let makes = g.J.Jobs.makes c.args.jobs.now in
    let split = All-pop (λ one. makes one.place one.made) c.loop-one.done.items c.pop.new.self.items (Some c.in-Some.one) c.in-Some.ensures.items c.loop-one.invariant.left in
    record {
      left = split.0;
      slots = filled_one makes c.loop-one.slots.items c.put.new.slots.items c.in-Some.one.place c.in-Some.one.made c.put.ensures split.1 c.loop-one.invariant.slots;
      count = ap length c.put.ensures ∙ length-set c.loop-one.slots.items c.in-Some.one.place _ ∙ c.loop-one.invariant.count;
    }
