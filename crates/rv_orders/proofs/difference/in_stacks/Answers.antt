use Rattle.std.proofs.Common.{◌*◌, ◌-◌, ap, ◌∙◌}
use Rattle.std.specs.Prelude.{nat_lt}
use Rattle.rv_orders.proofs.StackLemmas.{tells, tells_not}
use Rattle.rv_orders.proofs.difference.in_stacks.Goals as goal

pub returns-then-address-ge-STACKS : goal.returns-then-address-ge-STACKS
returns-then-address-ge-STACKS c =
    ap (λ n. nat_lt (c.args.address - 0xc000_0000) (n * 0x10000)) c.from.ensures ∙ tells c.args.harts c.args.address c.if-address-ge-STACKS.true

pub returns-else-address-ge-STACKS : goal.returns-else-address-ge-STACKS
returns-else-address-ge-STACKS c = tells_not c.args.harts c.args.address c.if-address-ge-STACKS.false
