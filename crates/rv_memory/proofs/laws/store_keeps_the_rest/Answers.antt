use Rattle.rv_memory.proofs.Frame.{byte-store, load-store_other, permits-store}
use Rattle.rv_memory.proofs.Spans.{spans-store}
use Rattle.rv_memory.proofs.laws.store_keeps_the_rest.Goals as goal

pub returns : goal.returns
returns c = record { bytes = byte-store; loads = load-store_other; spans = spans-store; permissions = permits-store }
