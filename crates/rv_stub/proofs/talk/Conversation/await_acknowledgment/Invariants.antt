-- what was read so far, and the reader has not failed
use Rattle.std.proofs.Common.{◌≡◌, ℕ, List}
use Rattle.std.specs.Io.KnownBytes.{Consumes}
use Rattle.rv_memory.specs.Flagged as flag
use Rattle.rv_stub.proofs.talk.Conversation.await_acknowledgment.Given as goal

abbrev pub invariant-loop-read : goal.invariant-loop-read
invariant-loop-read g l =
    record {
      taken : (bytes : List ℕ) × Consumes (g.C.Read.remaining (flag.device l.initial.commands)) (g.C.Read.remaining (flag.device l.commands)) bytes;
      reader : flag.has_failed l.commands ≡ flag.has_failed l.initial.commands;
    }
