use Rattle.rv_walk.proofs.LegalLemmas.{prefix}
use Rattle.rv_walk.proofs.walk_laws.steps_are_a_prefix.Goals as goal

pub returns : goal.returns
returns c = prefix
