use Rattle.std.proofs.Common.{arith}
use Rattle.std.proofs.KnownBytes.{Consumes-trans}
use Rattle.std.proofs.lemmas.Bool.Decides.{nat_tests}
use Rattle.rv_memory.specs.Flagged as flag
use Rattle.rv_stub.proofs.talk.Conversation.await_acknowledgment.Goals as goal

pub loop-read-preserved : goal.loop-read-preserved
loop-read-preserved g c =
    record {
      taken = (
        _,
        Consumes-trans (g.C.Read.remaining (flag.device c.args.commands.now)) (g.C.Read.remaining (flag.device c.loop-read.commands)) (g.C.Read.remaining (flag.device c.read.new.self)) c.loop-read.invariant.taken.0 _
            c.loop-read.invariant.taken.1 c.in-Ok.ensures.bytes.0,
      );
      reader = grind (arith, nat_tests);
    }
