use Rattle.rv_hart.proofs.LocalityLemmas.{locality_law}
use Rattle.rv_hart.proofs.laws.steps_are_local.Goals as goal

pub returns : goal.returns
returns c = locality_law
