use Rattle.std.proofs.Common.{◌∙◌, refl}
use Rattle.rv_tables.proofs.Rows.{inserted}
use Rattle.rv_tables.specs.Near.{joined, same_addresses}
use Rattle.rv_tables.proofs.near.NearTable.add.Goals as goal

pub returns : goal.returns
returns c =
    let entries = rw (c.self.view_is, c.with_row-row.ensures) at c.in_ok-insert.ensures.entries in
    entries ∙ inserted same_addresses joined _ (λ a b. refl) c.args.addresses c.args.row c.args.self.now
