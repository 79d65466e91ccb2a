use Rattle.std.proofs.Common.{◌∙◌, ap}
use Rattle.std.specs.Prelude.{is_some}
use Rattle.rv_tables.proofs.Rows.{has-row}
use Rattle.rv_tables.proofs.table.HuntTable.has.Goals as goal

pub returns : goal.returns
returns c = c.is_some.ensures ∙ ap is_some c.row.ensures ∙ has-row c.args.key.now c.args.self.now
