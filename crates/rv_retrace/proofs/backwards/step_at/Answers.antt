use Rattle.rv_retrace.proofs.StepLemmas.{step_back}
use Rattle.rv_retrace.proofs.backwards.step_at.Goals as goal

pub returns-clause-value : goal.returns-clause-value
returns-clause-value c =
    let lead = step_back c.steps_of_legal_schedules.ensures.steps c.schedules.ensures.states c.what_no_step_does.ensures.no_hart c.args.session.now c.facts.ensures.legal c.args.aims.now c.args.place in
    cc
