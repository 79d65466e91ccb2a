use Rattle.rv_tables.proofs.MergeLemmas.{races_apart}
use Rattle.rv_tables.proofs.laws.races_are_apart.Goals as goal

pub returns : goal.returns
returns c = races_apart
