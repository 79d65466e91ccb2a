use Rattle.std.proofs.Common.{◌∙◌}
use Rattle.rv_tables.proofs.OrderRowLemmas.{no-order, some-order}
use Rattle.rv_tables.proofs.orders.OrderTable.order_of.Goals as goal

pub returns-in-Some : goal.returns-in-Some
returns-in-Some c = c.order_by.ensures ∙ some-order c.row.result c.in-Some.row c.args.key.now c.args.self.now c.row.ensures c.in-Some.is

pub returns-in-None : goal.returns-in-None
returns-in-None c = no-order c.row.result c.args.key.now c.args.self.now c.row.ensures c.in-None.is
