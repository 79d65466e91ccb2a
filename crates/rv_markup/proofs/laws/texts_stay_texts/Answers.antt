use Rattle.rv_markup.proofs.EscapeLemmas.{is_plain, opens_nothing}
use Rattle.rv_markup.proofs.laws.texts_stay_texts.Goals as goal

pub returns-clause-nothing : goal.returns-clause-nothing
returns-clause-nothing c = opens_nothing

pub returns-clause-plain : goal.returns-clause-plain
returns-clause-plain c = is_plain
