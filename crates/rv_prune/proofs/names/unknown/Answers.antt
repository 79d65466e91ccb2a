use Rattle.std.proofs.Common.{rules}
use Rattle.rv_prune.specs.Ranges.{unknown}
use Rattle.rv_prune.proofs.Positions.{position-mapped}
use Rattle.rv_prune.proofs.names.unknown.Goals as goal

pub returns : goal.returns
unfolding unknown
returns c = rw position-mapped (search rules)
