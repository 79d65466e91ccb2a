use Rattle.rv_collide.proofs.PauseLemmas.{last}
use Rattle.rv_collide.proofs.pause_laws.pauses_that_ended.Goals as goal

pub returns : goal.returns
returns c = last
