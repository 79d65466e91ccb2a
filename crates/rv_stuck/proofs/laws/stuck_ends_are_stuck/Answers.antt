use Rattle.rv_stuck.proofs.EndLemmas.{stuck_by_end}
use Rattle.rv_stuck.proofs.laws.stuck_ends_are_stuck.Goals as goal

pub returns : goal.returns
returns c = stuck_by_end
