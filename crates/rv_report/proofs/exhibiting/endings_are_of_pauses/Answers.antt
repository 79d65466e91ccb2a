use Rattle.rv_report.proofs.Exhibits.{of_pauses}
use Rattle.rv_report.proofs.exhibiting.endings_are_of_pauses.Goals as goal

pub returns : goal.returns
returns c = of_pauses c.schedules.ensures.reports c.changes_of_a_pause.ensures.verdict c.pauses_that_ended.ensures
