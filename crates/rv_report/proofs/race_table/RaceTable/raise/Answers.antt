use Rattle.std.proofs.Common.{ap, ◌∙◌, refl, ◌≡◌}
use Rattle.rv_report.specs.Races.{Table}
use Rattle.rv_report.specs.internal.Added.{raised}
use Rattle.rv_report.proofs.Rows.{inserted}
use Rattle.rv_report.proofs.race_table.RaceTable.raise.Goals as goal

pub returns-clause-ok : goal.returns-clause-ok
returns-clause-ok c =
    let before : c.self.inside.rows.entries ≡ c.args.self.now.rows = ap (λ (t : Table). t.rows) c.self.view_is in
    let named : c.self.inside.named ≡ c.args.self.now.named = ap (λ (t : Table). t.named) c.self.view_is in
    let flag : c.self.inside.flag ≡ c.args.self.now.flag = ap (λ (t : Table). t.flag) c.self.view_is in
    let counter : c.self.inside.counter ≡ c.args.self.now.counter = ap (λ (t : Table). t.counter) c.self.view_is in
    let entries = rw (before, c.raised_row-row.ensures) at c.in_ok-insert.ensures.entries in
    let rows : c.insert.new.self.entries ≡ raised c.args.self.now.rows c.args.key c.args.run c.args.ending.now =
    entries ∙ inserted _ (λ a b. refl) c.args.key c.args.run c.args.ending.now c.args.self.now.rows in
    rw (rows, named, flag, counter) refl
