-- the bytes so far are written, and the writer has failed no more than before
use Rattle.std.proofs.Common.{◌≡◌, take}
use Rattle.std.specs.Io.KnownBytes.{Appends}
use Rattle.rv_hart.specs.Texts.{output_line}
use Rattle.rv_hart.proofs.texts.write_output.Given as goal

abbrev pub invariant-loop-byte : goal.invariant-loop-byte
invariant-loop-byte g l =
    record {
      written : Appends (g.O.Output.written l.fn.writer) (g.O.Output.written l.writer) (output_line (take l.byte-index l.output));
      failed : g.O.Output.has_failed l.writer ≡ g.O.Output.has_failed l.fn.writer;
    }
