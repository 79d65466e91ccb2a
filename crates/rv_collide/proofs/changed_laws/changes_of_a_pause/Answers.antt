use Rattle.rv_collide.proofs.ChangedLemmas.{Laws, changes, changed, watched_never}
use Rattle.rv_collide.proofs.changed_laws.changes_of_a_pause.Goals as goal

pub returns-clause-bytes : goal.returns-clause-bytes
returns-clause-bytes c =
    let laws : Laws = record { running = c.reservations_and_accesses.ensures.running; next = c.reservations_and_accesses.ensures.next; bytes = c.what_no_step_does.ensures.other_bytes } in
    changes laws

pub returns-clause-verdict : goal.returns-clause-verdict
returns-clause-verdict c =
    let laws : Laws = record { running = c.reservations_and_accesses.ensures.running; next = c.reservations_and_accesses.ensures.next; bytes = c.what_no_step_does.ensures.other_bytes } in
    changed laws

pub returns-clause-watched : goal.returns-clause-watched
returns-clause-watched c =
    let laws : Laws = record { running = c.reservations_and_accesses.ensures.running; next = c.reservations_and_accesses.ensures.next; bytes = c.what_no_step_does.ensures.other_bytes } in
    watched_never laws
