use Rattle.rv_hart.specs.State.{start as first_state}
use Rattle.rv_explain.proofs.OrderLemmas.{order_before}
use Rattle.rv_explain.proofs.order.order_of.Goals as goal

pub returns : goal.returns
returns c =
    order_before (first_state c.args.symbols.now.image.segments c.args.symbols.now.image.entry c.args.harts) c.in-Some.machine.state c.args.entries.now c.args.block.now.second c.args.numbers c.args.block.now.other.hart c.args.block.now.paused.hart c.in-Some-2.order
    (rw (c.in-Some.is, c.image-image.ensures) at c.in_ok-machine.ensures.at)
    (rw c.in-Some-2.is at c.in_ok-order_at.ensures.first)
    (rw c.in-Some-2.is at c.in_ok-order_at.ensures.second)
    (rw c.in-Some-2.is at c.in_ok-order_at.ensures.kept)
