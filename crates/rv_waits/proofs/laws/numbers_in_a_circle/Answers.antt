use Rattle.rv_waits.proofs.CircleLemmas.{reaches}
use Rattle.rv_waits.proofs.laws.numbers_in_a_circle.Goals as goal

pub returns : goal.returns
returns c = reaches
