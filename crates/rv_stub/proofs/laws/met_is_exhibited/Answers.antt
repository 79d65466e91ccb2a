use Rattle.rv_stub.proofs.LastStore as last
use Rattle.rv_stub.proofs.laws.met_is_exhibited.Goals as goal

pub returns : goal.returns
returns c = last.met_is_exhibited
