use Rattle.rv_isa.proofs.LawLemmas.{one_row}
use Rattle.rv_isa.proofs.laws.one_row_per_word.Goals as goal

pub returns : goal.returns
returns c = one_row
