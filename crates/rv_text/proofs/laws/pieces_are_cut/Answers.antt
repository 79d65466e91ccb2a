use Rattle.rv_text.proofs.SeparatorLemmas.{pieces_are_cut}
use Rattle.rv_text.proofs.laws.pieces_are_cut.Goals as goal

pub returns : goal.returns
returns c = pieces_are_cut
