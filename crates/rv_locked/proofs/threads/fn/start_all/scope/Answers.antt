use denote.Param.Send.{sendable}
use Rattle.std.proofs.Crossing.{crosses}
use Rattle.rv_locked.proofs.SentLemmas.{shared_sync}
use Rattle.rv_locked.proofs.threads.fn.start_all.scope.Goals as goal

pub spawn-started-requires-send-F : goal.spawn-started-requires-send-F
spawn-started-requires-send-F g c κs within = search (shared_sync, sendable, crosses) depth 60 fits 20000
