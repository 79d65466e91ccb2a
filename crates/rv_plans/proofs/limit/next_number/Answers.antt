use Rattle.std.proofs.Common.{◌+◌, ap}
use Rattle.rv_plans.proofs.limit.next_number.Goals as goal

pub returns : goal.returns
returns c = ap (λ n. n + c.args.runs) c.from.ensures
