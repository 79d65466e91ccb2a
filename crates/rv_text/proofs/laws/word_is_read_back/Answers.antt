use Rattle.rv_text.proofs.HexLemmas.{read_back}
use Rattle.rv_text.proofs.laws.word_is_read_back.Goals as goal

pub returns : goal.returns
returns c = read_back
