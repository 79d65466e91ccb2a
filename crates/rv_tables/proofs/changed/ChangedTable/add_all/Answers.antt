use Rattle.std.proofs.Common.{◌∙◌, ap, option_to_list}
use Rattle.std.specs.List.{fold}
use Rattle.rv_tables.proofs.ChangedLemmas.{found_next}
use Rattle.rv_tables.specs.Changed.{added, row_if}
use Rattle.rv_tables.proofs.changed.ChangedTable.add_all.Goals as goal

pub loop-report-preserved : goal.loop-report-preserved
loop-report-preserved c =
    let next = c.in_ok-add_if.ensures ∙ ap (λ o. fold added c.loop-report.self (option_to_list o)) c.row_if.ensures in
    found_next added (row_if c.args.run) c.args.reports.now c.loop-report.report-index _ c.args.self.now c.loop-report.self c.add_if.new.self c.loop-report-test.true c.loop-report.invariant next
