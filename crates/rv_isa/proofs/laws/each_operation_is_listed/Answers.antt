use Rattle.rv_isa.proofs.ListedLemmas.{each_listed}
use Rattle.rv_isa.proofs.laws.each_operation_is_listed.Goals as goal

pub returns : goal.returns
returns c = each_listed
