use Rattle.std.proofs.Common.{◌∙◌, refl}
use Rattle.rv_tables.proofs.Rows.{looked-up}
use Rattle.rv_tables.specs.Changed.{same_changed}
use Rattle.rv_tables.specs.Rows.{joined}
use Rattle.rv_tables.proofs.changed.ChangedTable.row.Goals as goal

pub returns : goal.returns
returns c =
    rw (← c.self.view_is) (c.copied.ensures ∙ c.get.ensures.value ∙ looked-up same_changed joined _ (λ a b. refl) c.args.key.now c.self.inside.rows.entries)
