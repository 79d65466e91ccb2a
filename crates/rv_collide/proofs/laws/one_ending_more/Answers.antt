use Rattle.rv_collide.proofs.EndingLemmas.{one_ending_more}
use Rattle.rv_collide.proofs.laws.one_ending_more.Goals as goal

pub returns : goal.returns
returns c = one_ending_more
