use Rattle.std.proofs.Common.{rules, ◌∙◌, refl, ◌≡◌, Some, None}
use Rattle.rv_report.specs.internal.Added.{row_of}
use Rattle.rv_report.proofs.Rows.{looked-up}
use Rattle.rv_report.proofs.race_table.RaceTable.raised_row.Goals as goal

pub returns-in-Some : goal.returns-in-Some
returns-in-Some c =
    let found : Some c.in-Some.row.now ≡ row_of c.self.inside.rows.entries c.args.key.now = c.in-Some.ensures.value ∙ looked-up _ (λ a b. refl) c.args.key.now c.self.inside.rows.entries in
    rw (← c.self.view_is, ← found) (search rules)

pub returns-in-None : goal.returns-in-None
returns-in-None c =
    let found : None ≡ row_of c.self.inside.rows.entries c.args.key.now = c.in-None.ensures.value ∙ looked-up _ (λ a b. refl) c.args.key.now c.self.inside.rows.entries in
    rw (← c.self.view_is, ← found) (search rules)
