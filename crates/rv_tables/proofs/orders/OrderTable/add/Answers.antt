use Rattle.std.proofs.Common.{◌∙◌, refl}
use Rattle.rv_tables.proofs.Rows.{inserted}
use Rattle.rv_tables.specs.Orders.{joined}
use Rattle.rv_report.specs.Races.{same_key}
use Rattle.rv_tables.proofs.orders.OrderTable.add.Goals as goal

pub returns : goal.returns
returns c =
    let entries = rw (c.self.view_is, c.with_row-row.ensures) at c.in_ok-insert.ensures.entries in
    entries ∙ inserted same_key joined _ (λ a b. refl) c.args.key c.args.row c.args.self.now
