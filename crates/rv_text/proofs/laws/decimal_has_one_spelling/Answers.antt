use Rattle.rv_text.proofs.SpellingLemmas.{one_spelling}
use Rattle.rv_text.proofs.laws.decimal_has_one_spelling.Goals as goal

pub returns : goal.returns
returns c = one_spelling
