use Rattle.std.proofs.Common.{◌∙◌, ap, refl, sym, subst}
use Rattle.rv_memory.specs.Buffered as buffer
use Rattle.rv_stub.proofs.TurnLemmas.{killed, replied}
use Rattle.rv_stub.specs.Answers.{Answer, IsAnswer}
use Rattle.rv_stub.specs.Heard.{Conversation, requested}
use Rattle.rv_stub.specs.Reply.{reply_text}
use Rattle.rv_stub.proofs.talk.Conversation.answer_packet.Goals as goal

pub returns-then-kills-clause-turn : goal.returns-then-kills-clause-turn
returns-then-kills-clause-turn g c =
    killed c.args.self.now _ c.requested-request.result (requested c.args.self.now.reading) (buffer.written g.W.Write.contents c.args.writer.now)
    (c.requested-request.ensures ∙ ap (λ (k : Conversation). requested k.reading) c.self.view_is) (sym c.kills.ensures ∙ c.if-kills.true) (rw (← c.self.view_is) refl)

pub returns-clause-turn : goal.returns-clause-turn
returns-clause-turn g c =
    let answer : Answer = record { text = reply_text c.answer-reply.result; after = c.answer-reply.new.self } in
    replied c.args.self.now _ c.requested-request.result (requested c.args.self.now.reading) answer (buffer.written g.W.Write.contents c.args.writer.now) (buffer.written g.W.Write.contents c.write.new.writer)
    (c.requested-request.ensures ∙ ap (λ (k : Conversation). requested k.reading) c.self.view_is) (sym c.kills.ensures ∙ c.if-kills.false)
    (subst (λ (k : Conversation). IsAnswer k.standing c.requested-request.result answer) c.self.view_is c.answer-reply.ensures)
    (rw (← c.self.view_is, c.acknowledges_after-acknowledges.ensures, c.detaches-ends.ensures) refl) c.in_ok-write.ensures.ok
