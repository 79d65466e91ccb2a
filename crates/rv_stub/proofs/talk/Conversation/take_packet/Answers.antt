use Rattle.std.proofs.Common.{◌≡◌, true}
use Rattle.rv_memory.specs.Buffered as buffer
use Rattle.rv_stub.proofs.TalkLemmas.{handed_on}
use Rattle.rv_stub.proofs.TurnLemmas.{acknowledged, refused}
use Rattle.rv_stub.proofs.talk.Conversation.take_packet.Goals as goal

pub returns-then-not-right-clause-turn : goal.returns-then-not-right-clause-turn
returns-then-not-right-clause-turn g c =
    let acks : c.args.self.now.acknowledges ≡ true = rw (← c.self.view_is) c.if-self.true in
    refused c.args.self.now c.args.right (buffer.written g.W.Write.contents c.args.writer.now) (buffer.written g.W.Write.contents c.acknowledge.new.writer) acks c.if-not-right.true (handed_on _ _ _ _ c.in_ok-acknowledge.ensures.sent c.in_ok-acknowledge.ensures.pending)

pub returns-then-self-clause-turn : goal.returns-then-self-clause-turn
returns-then-self-clause-turn g c =
    let acks : c.args.self.now.acknowledges ≡ true = rw (← c.self.view_is) c.if-self.true in
    acknowledged c.args.self.now c.answer_packet.new.self c.args.right (buffer.written g.W.Write.contents c.args.writer.now) (buffer.written g.W.Write.contents c.acknowledge.new.writer) (buffer.written g.W.Write.contents c.answer_packet.new.writer)
    acks c.if-not-right.false (handed_on _ _ _ _ c.in_ok-acknowledge.ensures.sent c.in_ok-acknowledge.ensures.pending) c.in_ok-answer_packet.ensures.turn
