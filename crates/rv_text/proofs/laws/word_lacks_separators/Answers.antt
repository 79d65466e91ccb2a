use Rattle.rv_text.proofs.SeparatorLemmas.{word_lacks}
use Rattle.rv_text.proofs.laws.word_lacks_separators.Goals as goal

pub returns : goal.returns
returns c = word_lacks
