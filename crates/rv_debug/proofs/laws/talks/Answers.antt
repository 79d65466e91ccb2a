use Rattle.rv_debug.proofs.TalkLawLemmas.{talks_are_one}
use Rattle.rv_debug.proofs.laws.talks.Goals as goal

pub returns : goal.returns
returns c = talks_are_one
