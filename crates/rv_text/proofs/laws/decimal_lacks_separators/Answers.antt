use Rattle.rv_text.proofs.SeparatorLemmas.{decimal_lacks}
use Rattle.rv_text.proofs.laws.decimal_lacks_separators.Goals as goal

pub returns : goal.returns
returns c = decimal_lacks
