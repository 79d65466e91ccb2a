use Rattle.rv_report.proofs.Written.{table_written}
use Rattle.rv_report.proofs.race_table.RaceTable.write_table.Goals as goal

pub returns-clause-ok : goal.returns-clause-ok
returns-clause-ok g c =
    let races = rw c.len.ensures.len at c.in_ok-write_races.ensures.ok in
    rw (← c.self.view_is) (table_written _ c.write_pruned.result _ _ _ _ races c.in_ok-write_rows.ensures.ok c.write_pruned.ensures.ok)
