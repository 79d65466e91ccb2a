use Rattle.std.proofs.Common.{◌≡◌, ◌+◌, ◌*◌, length}
use Rattle.rv_locked.specs.internal.Rooms.{HaveRoom}
use Rattle.rv_locked.proofs.threads.places.Given as goal

abbrev pub invariant-loop : goal.invariant-loop
invariant-loop l = record {
  count : length l.lists.items ≡ l.counter;
  room : HaveRoom (l.fn.plan.steps + 2 * l.fn.plan.arms) l.lists.items;
}
