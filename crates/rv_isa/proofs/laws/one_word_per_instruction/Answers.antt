use Rattle.rv_isa.proofs.LawLemmas.{one_word}
use Rattle.rv_isa.proofs.laws.one_word_per_instruction.Goals as goal

pub returns : goal.returns
returns c = one_word
