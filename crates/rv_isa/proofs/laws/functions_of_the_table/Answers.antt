use Rattle.rv_isa.proofs.LawLemmas.{functions_of_table}
use Rattle.rv_isa.proofs.laws.functions_of_the_table.Goals as goal

pub returns : goal.returns
returns c = functions_of_table
