-- the bytes so far are taken
use Rattle.std.proofs.Common.{◌≡◌, take}
use Rattle.std.specs.Io.KnownBytes.{Appends}
use Rattle.rv_memory.specs.Buffered as buffer
use Rattle.rv_stub.specs.Talk.{IsTalk}
use Rattle.rv_stub.proofs.talk.Conversation.hear_all.Given as goal

abbrev pub invariant-loop-byte : goal.invariant-loop-byte
invariant-loop-byte g l =
    record {
      talk : IsTalk l.fn.self (take l.byte-index l.bytes) l.self (Appends (buffer.written g.W.Write.contents l.fn.writer) (buffer.written g.W.Write.contents l.writer));
      failed : buffer.has_failed l.writer ≡ buffer.has_failed l.fn.writer;
    }
