use Rattle.rv_collide.proofs.EndingsOf.{has_access, has_ending, one_for_each}
use Rattle.rv_collide.proofs.laws.pauses_of_legal_schedules.Goals as goal

pub returns-clause-accesses : goal.returns-clause-accesses
returns-clause-accesses c = has_access

pub returns-clause-endings : goal.returns-clause-endings
returns-clause-endings c = has_ending

pub returns-clause-each : goal.returns-clause-each
returns-clause-each c = one_for_each
