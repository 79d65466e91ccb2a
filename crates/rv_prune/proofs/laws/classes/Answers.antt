use Rattle.rv_prune.proofs.RuleLemmas.{touching_is_sharing, flags_look_same}
use Rattle.rv_prune.proofs.laws.classes.Goals as goal

pub returns : goal.returns
returns c = record { touching = touching_is_sharing; flags = flags_look_same }
