use Rattle.std.proofs.Common.{◌+◌, ◌*◌, ◌∷◌, [], length, ap, arith, length-append}
use Rattle.rv_locked.proofs.RoomLemmas.{room_pushed}
use Rattle.rv_locked.proofs.threads.places.Goals as goal

pub loop-preserved : goal.loop-preserved
loop-preserved c =
    let long = c.in_ok-list.ensures.room in
    let longer = length-append c.loop.lists.items (c.in_ok-list.list ∷ []) in
    let is = ap length c.in_ok-push.ensures.items in
    let count = c.loop.invariant.count in
    record {
      count = omega (arith, longer, is, count);
      room = room_pushed (c.args.plan.steps + 2 * c.args.plan.arms) c.loop.lists.items c.push.new.self.items c.in_ok-list.list c.loop.invariant.room c.in_ok-push.ensures.items (omega (arith, long));
    }
