use Rattle.rv_hart.proofs.ReservationLemmas.{steps_of_running_harts, own_reservation, others_reservations, next_is_made, sizes_of_accesses}
use Rattle.rv_hart.proofs.laws.reservations_and_accesses.Goals as goal

pub returns-clause-running : goal.returns-clause-running
returns-clause-running c = steps_of_running_harts

pub returns-clause-own : goal.returns-clause-own
returns-clause-own c = own_reservation

pub returns-clause-others : goal.returns-clause-others
returns-clause-others c = others_reservations

pub returns-clause-next : goal.returns-clause-next
returns-clause-next c = next_is_made

pub returns-clause-sizes : goal.returns-clause-sizes
returns-clause-sizes c = sizes_of_accesses
