use Rattle.std.proofs.Common.{refl}
use Rattle.rv_plans.proofs.plans.Plans.numbered.Goals as goal

pub returns-clause-plan : goal.returns-clause-plan
returns-clause-plan c = c.plan-plan.ensures.value

pub returns-clause-number : goal.returns-clause-number
returns-clause-number c = refl
