use Rattle.rv_waits.proofs.RoundLemmas.{after_its_steps, until_touched}
use Rattle.rv_waits.proofs.laws.waits_until_touched.Goals as goal

pub returns-clause-others : goal.returns-clause-others
returns-clause-others c = until_touched c.steps_are_local.ensures c.what_no_step_does.ensures.other_harts c.store_keeps_the_rest.ensures.bytes c.store_keeps_the_rest.ensures.permissions

pub returns-clause-own : goal.returns-clause-own
returns-clause-own c = after_its_steps c.steps_are_local.ensures c.store_keeps_the_rest.ensures.bytes
