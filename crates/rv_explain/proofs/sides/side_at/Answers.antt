use Rattle.std.proofs.Common.{rules}
use Rattle.rv_explain.proofs.sides.side_at.Goals as goal

pub returns-clause-side : goal.returns-clause-side
returns-clause-side c = search rules
