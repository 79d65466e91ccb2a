use Rattle.rv_collide.proofs.HeldLemmas.{held}
use Rattle.rv_collide.proofs.LawLemmas.{same_steps, reports, states}
use Rattle.rv_collide.proofs.ReportLemmas.{complete}
use Rattle.rv_collide.proofs.laws.schedules.Goals as goal

pub returns-clause-same_steps : goal.returns-clause-same_steps
returns-clause-same_steps c = same_steps

pub returns-clause-reports : goal.returns-clause-reports
returns-clause-reports c = reports

pub returns-clause-complete : goal.returns-clause-complete
returns-clause-complete c = complete

pub returns-clause-states : goal.returns-clause-states
returns-clause-states c = states c.reservations_and_accesses.ensures.running

pub returns-clause-reservations : goal.returns-clause-reservations
returns-clause-reservations c =
    held (record {
      own = c.reservations_and_accesses.ensures.own;
      others = c.reservations_and_accesses.ensures.others;
      made = c.reservations_and_accesses.ensures.next;
    })
