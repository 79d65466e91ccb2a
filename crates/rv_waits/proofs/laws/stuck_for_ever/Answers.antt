use Rattle.rv_waits.proofs.StuckLemmas.{stuck_runs}
use Rattle.rv_waits.proofs.laws.stuck_for_ever.Goals as goal

pub returns : goal.returns
returns c = stuck_runs c.steps_are_local.ensures c.what_no_step_does.ensures.other_harts c.reservations_and_accesses.ensures.running c.store_keeps_the_rest.ensures.bytes
