use Rattle.rv_memory.specs.Buffered as buffer
use Rattle.rv_stub.proofs.TurnLemmas.{told_again, told_nothing}
use Rattle.rv_stub.proofs.talk.Conversation.obey.Goals as goal

pub returns-in-Nothing-clause-turn : goal.returns-in-Nothing-clause-turn
returns-in-Nothing-clause-turn g c = told_nothing c.args.self.now c.args.heard (buffer.written g.W.Write.contents c.args.writer.now) c.in-Nothing.is

pub returns-in_ok-write_again-in-Again-clause-turn : goal.returns-in_ok-write_again-in-Again-clause-turn
returns-in_ok-write_again-in-Again-clause-turn g c =
    told_again c.args.self.now c.args.heard (buffer.written g.W.Write.contents c.args.writer.now) (buffer.written g.W.Write.contents c.write_again.new.writer) c.in-Again.is c.in_ok-write_again-in-Again.ensures.ok
