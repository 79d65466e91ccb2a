-- what was read is told to the talk, and the devices have failed no more than before
use Rattle.std.proofs.Common.{◌≡◌}
use Rattle.rv_memory.specs.Buffered as buffer
use Rattle.rv_memory.specs.Flagged as flag
use Rattle.rv_memory.specs.declared.flagged.TheConstants.{INPUT_LIMIT}
use Rattle.rv_stub.proofs.TalkLemmas.{SoFar}
use Rattle.rv_stub.proofs.talk.Conversation.hear_input.Given as goal

abbrev pub invariant-reads : goal.invariant-reads
invariant-reads g l =
    record {
      so_far : SoFar INPUT_LIMIT l.initial.self l.self (g.C.Read.remaining (flag.device l.initial.commands)) (g.C.Read.remaining (flag.device l.commands)) l.left
          (buffer.written g.W.Write.contents l.initial.writer) (buffer.written g.W.Write.contents l.writer);
      reader : flag.has_failed l.commands ≡ flag.has_failed l.initial.commands;
      writer : buffer.has_failed l.writer ≡ buffer.has_failed l.initial.writer;
    }

abbrev pub decreases-reads : goal.decreases-reads
decreases-reads g l = l.left
