use Rattle.rv_text.proofs.LineLemmas.{read_back}
use Rattle.rv_text.proofs.laws.lines_are_read_back.Goals as goal

pub returns : goal.returns
returns c = read_back
