use Rattle.std.proofs.Common.{◌∙◌, arith, ap, length, ◌∷◌, [], length-append}
use Rattle.rv_campaign.proofs.SlotLemmas.{one_more}
use Rattle.rv_campaign.proofs.pool.in_order.Goals as goal

pub loop-place-preserved : goal.loop-place-preserved
loop-place-preserved g c =
    let below = c.loop-place-test.true in
    let jobs = c.count-place-end.ensures in
    let count = c.loop-place.invariant.count in
    let long = ap length c.in_ok-push.ensures.items ∙ length-append c.loop-place.made.items (c.in_ok-one.one ∷ []) in
    record {
      within = omega (arith, below, jobs);
      count = omega (arith, long, count);
      slots_count = c.made_at.ensures.count;
      slots = c.made_at.ensures.slots;
      made = one_more (g.J.Jobs.makes c.args.jobs.now) c.loop-place.made.items c.push.new.self.items c.in_ok-one.one c.loop-place.place c.in_ok-push.ensures.items count c.in_ok-one.ensures.made c.loop-place.invariant.made;
    }

pub returns : goal.returns
returns g c =
    let over = c.loop-place-test.false in
    let within = c.loop-place.invariant.within in
    let jobs = c.count-place-end.ensures in
    let count = c.loop-place.invariant.count in
    record {
      count_is = omega (arith, over, within, jobs, count);
      each = c.loop-place.invariant.made;
    }
