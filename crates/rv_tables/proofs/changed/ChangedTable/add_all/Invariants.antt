-- the rows of the changed ones of the reports so far are added
use Rattle.std.proofs.Common.{◌≡◌, filter_map, take}
use Rattle.std.specs.List.{fold}
use Rattle.rv_tables.specs.Changed.{added, row_if}
use Rattle.rv_tables.proofs.changed.ChangedTable.add_all.Given as goal

abbrev pub invariant-loop-report : goal.invariant-loop-report
invariant-loop-report l = l.self ≡ fold added l.initial.self (filter_map (row_if l.run) (take l.report-index l.reports))
