use Rattle.rv_isa.proofs.LawLemmas.{one_instruction}
use Rattle.rv_isa.proofs.laws.one_instruction_per_word.Goals as goal

pub returns : goal.returns
returns c = one_instruction
