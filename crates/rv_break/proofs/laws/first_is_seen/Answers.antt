use Rattle.rv_break.proofs.Shown.{first_is_seen}
use Rattle.rv_break.proofs.laws.first_is_seen.Goals as goal

pub returns : goal.returns
returns c = first_is_seen
