use Rattle.std.proofs.Common.{rules}
use Rattle.rv_plans.proofs.limit.Limit.goes_on.Goals as goal

pub returns-then-reached-steps : goal.returns-then-reached-steps
returns-then-reached-steps c = search rules
