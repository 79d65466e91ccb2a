use Rattle.std.proofs.Common.{◌∙◌, refl}
use Rattle.rv_tables.proofs.Rows.{inserted}
use Rattle.rv_tables.specs.Rows.{joined}
use Rattle.rv_report.specs.Races.{same_key}
use Rattle.rv_tables.proofs.table.HuntTable.add.Goals as goal

pub returns-clause-ok : goal.returns-clause-ok
returns-clause-ok c =
    let entries = rw (c.self.view_is, c.with_row-row.ensures) at c.in_ok-insert.ensures.entries in
    entries ∙ inserted same_key joined _ (λ a b. refl) c.args.key c.args.row c.args.self.now
