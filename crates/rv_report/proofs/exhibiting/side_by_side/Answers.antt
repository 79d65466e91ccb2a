use Rattle.rv_report.proofs.Exhibits.{side_by_side}
use Rattle.rv_report.proofs.exhibiting.side_by_side.Goals as goal

pub returns : goal.returns
returns c = side_by_side c.schedules.ensures.states c.what_no_step_does.ensures.other_harts c.reservations_and_accesses.ensures.next c.store_keeps_the_rest.ensures.permissions
