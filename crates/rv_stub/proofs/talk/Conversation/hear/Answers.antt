use Rattle.std.proofs.Common.{◌≡◌, true}
use Rattle.rv_memory.specs.Buffered as buffer
use Rattle.rv_stub.proofs.TurnLemmas.{dropped}
use Rattle.rv_stub.proofs.talk.Conversation.hear.Goals as goal

pub returns-then-self-clause-turn : goal.returns-then-self-clause-turn
returns-then-self-clause-turn g c =
    let over : c.args.self.now.is_over ≡ true = rw (← c.self.view_is) c.if-self.true in
    dropped c.args.self.now c.args.byte (buffer.written g.W.Write.contents c.args.writer.now) over
