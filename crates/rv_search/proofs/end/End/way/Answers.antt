use Rattle.std.proofs.Common.{rules}
use Rattle.rv_search.proofs.end.End.way.Goals as goal

pub returns-in-Stopped : goal.returns-in-Stopped
returns-in-Stopped c = search rules
