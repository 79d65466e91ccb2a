use Rattle.rv_text.proofs.SpellingLemmas.{read_back}
use Rattle.rv_text.proofs.laws.decimal_is_read_back.Goals as goal

pub returns : goal.returns
returns c = read_back
