use Rattle.rv_tables.proofs.MergeLemmas.{origins_joined}
use Rattle.rv_tables.proofs.laws.origins_are_joined.Goals as goal

pub returns : goal.returns
returns c = origins_joined
