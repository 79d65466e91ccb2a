-- the bytes so far are written, and the writer has failed no more than before
use Rattle.std.proofs.Common.{◌≡◌, ◌∷◌, ◌++◌, take}
use Rattle.std.specs.Prelude.{codes}
use Rattle.std.specs.Io.KnownBytes.{Appends}
use Rattle.std.specs.List.{flat_map}
use Rattle.rv_text.specs.Hexadecimal.{byte_digits, word_digits}
use Rattle.rv_debug.proofs.answer.put_bytes.Given as goal

abbrev pub invariant-loop-byte : goal.invariant-loop-byte
invariant-loop-byte g l =
    record {
      written : Appends (g.O.Output.written l.fn.writer) (g.O.Output.written l.writer) (word_digits l.address ++ codes ":" ++ flat_map (λ byte. 32 ∷ byte_digits byte) (take l.byte-index l.bytes));
      failed : g.O.Output.has_failed l.writer ≡ g.O.Output.has_failed l.fn.writer;
    }
