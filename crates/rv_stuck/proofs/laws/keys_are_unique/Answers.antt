use Rattle.rv_stuck.proofs.KeyLemmas.{same_keys}
use Rattle.rv_stuck.proofs.laws.keys_are_unique.Goals as goal

pub returns : goal.returns
returns c = same_keys
