use Rattle.rv_hart.proofs.FetchLemmas.{instruction_law, illegal_law, fetch_fault_law, plain_law}
use Rattle.rv_hart.proofs.laws.actions_by_the_table.Goals as goal

pub returns-clause-instruction : goal.returns-clause-instruction
returns-clause-instruction c = instruction_law c.functions_of_the_table.ensures

pub returns-clause-illegal : goal.returns-clause-illegal
returns-clause-illegal c = illegal_law c.functions_of_the_table.ensures

pub returns-clause-fetch_fault : goal.returns-clause-fetch_fault
returns-clause-fetch_fault c = fetch_fault_law

pub returns-clause-plain : goal.returns-clause-plain
returns-clause-plain c = plain_law c.functions_of_the_table.ensures
