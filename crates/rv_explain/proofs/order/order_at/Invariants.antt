-- the machine stays where it stood, and what is kept so far is of trials from there
use Rattle.std.proofs.Common.{◌≡◌}
use Rattle.rv_explain.specs.Order.{AreKept}
use Rattle.rv_explain.proofs.order.order_at.Given as goal

abbrev pub invariant-loop-n : goal.invariant-loop-n
invariant-loop-n l =
    (l.machine ≡ l.initial.machine) × (l.order.first ≡ l.initial.order.first) × (l.order.second ≡ l.initial.order.second) × AreKept l.initial.machine.state l.numbers l.order
