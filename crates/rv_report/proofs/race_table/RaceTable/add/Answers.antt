use Rattle.std.proofs.Common.{ap, ◌∙◌, sym, Some}
use Rattle.rv_report.specs.Races as spec
use Rattle.rv_report.specs.internal.Added.{added_key}
use Rattle.rv_report.proofs.Tables.{added-push}
use Rattle.rv_report.proofs.race_table.RaceTable.add.Goals as goal

pub returns-in_default-clause-ok : goal.returns-in_default-clause-ok
returns-in_default-clause-ok c told is =
    let t : spec.Told = record { run = c.args.run; ending = c.args.ending.now; class = c.args.class } in
    let more = added-push told t in
    is ∙ ap (added_key (spec.races told) c.args.run c.args.ending.now c.args.class) (sym c.in_default.is ∙ c.key_of.ensures) ∙ more

pub returns-clause-ok : goal.returns-clause-ok
returns-clause-ok c told is =
    let t : spec.Told = record { run = c.args.run; ending = c.args.ending.now; class = c.args.class } in
    let more = added-push told t in
    c.in_ok-count.ensures.ok
    ∙ ap (λ table. added_key table c.args.run c.args.ending.now c.args.class (Some c.in-Some.key)) is
    ∙ ap (added_key (spec.races told) c.args.run c.args.ending.now c.args.class) (sym c.in-Some.is ∙ c.key_of.ensures) ∙ more
