use Rattle.rv_collide.proofs.Writable.{legal_is_writable}
use Rattle.rv_collide.proofs.schedule.laws.legal_is_writable.Goals as goal

pub returns : goal.returns
returns c = legal_is_writable
