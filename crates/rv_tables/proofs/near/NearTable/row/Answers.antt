use Rattle.std.proofs.Common.{◌∙◌, refl}
use Rattle.rv_tables.proofs.Rows.{looked-up}
use Rattle.rv_tables.specs.Near.{joined, same_addresses}
use Rattle.rv_tables.proofs.near.NearTable.row.Goals as goal

pub returns : goal.returns
returns c =
    rw (← c.self.view_is) (c.copied.ensures ∙ c.get.ensures.value ∙ looked-up same_addresses joined _ (λ a b. refl) c.args.addresses.now c.self.inside.rows.entries)
