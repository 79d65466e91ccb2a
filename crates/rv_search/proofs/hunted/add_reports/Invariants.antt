-- the rows of the reports so far are added
use Rattle.std.proofs.Common.{◌≡◌, map, take}
use Rattle.std.specs.List.{fold}
use Rattle.rv_tables.specs.Rows.{added, row_of}
use Rattle.rv_search.proofs.hunted.add_reports.Given as goal

abbrev pub invariant-loop-report : goal.invariant-loop-report
invariant-loop-report l = l.table ≡ fold added l.initial.table (map (row_of l.run) (take l.report-index l.reports))
