use Rattle.rv_collide.proofs.WalkLemmas.{lead_on, others, print_few}
use Rattle.rv_collide.proofs.walk_laws.steps_of_legal_schedules.Goals as goal

pub returns-clause-steps : goal.returns-clause-steps
returns-clause-steps c = lead_on c.reservations_and_accesses.ensures.running c.what_no_step_does.ensures.output

pub returns-clause-others : goal.returns-clause-others
returns-clause-others c = others

pub returns-clause-few : goal.returns-clause-few
returns-clause-few c = print_few c.reservations_and_accesses.ensures.running c.what_no_step_does.ensures.output
