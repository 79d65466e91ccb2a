use Rattle.std.proofs.Common.{◌∙◌, refl}
use Rattle.rv_tables.proofs.Rows.{looked-up}
use Rattle.rv_tables.specs.Rows.{joined}
use Rattle.rv_report.specs.Races.{same_key}
use Rattle.rv_tables.proofs.table.HuntTable.row.Goals as goal

pub returns : goal.returns
returns c =
    rw (← c.self.view_is) (c.copied.ensures ∙ c.get.ensures.value ∙ looked-up same_key joined _ (λ a b. refl) c.args.key.now c.self.inside.rows.entries)
