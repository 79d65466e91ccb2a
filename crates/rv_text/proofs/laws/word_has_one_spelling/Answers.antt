use Rattle.rv_text.proofs.HexLemmas.{one_spelling}
use Rattle.rv_text.proofs.laws.word_has_one_spelling.Goals as goal

pub returns : goal.returns
returns c = one_spelling
