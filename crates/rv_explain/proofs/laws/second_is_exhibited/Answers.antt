use Rattle.rv_explain.proofs.SecondLemmas as second
use Rattle.rv_explain.proofs.laws.second_is_exhibited.Goals as goal

pub returns : goal.returns
returns c = second.second_is_exhibited
