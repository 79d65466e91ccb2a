use Rattle.rv_memory.proofs.Frame.{is_some-byte}
use Rattle.rv_memory.proofs.laws.bytes_stand_where_covered.Goals as goal

pub returns : goal.returns
returns c = is_some-byte
