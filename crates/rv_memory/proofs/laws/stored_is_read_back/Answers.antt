use Rattle.rv_memory.proofs.Frame.{load-store}
use Rattle.rv_memory.proofs.laws.stored_is_read_back.Goals as goal

pub returns : goal.returns
returns c = load-store
