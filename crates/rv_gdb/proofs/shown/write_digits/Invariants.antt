-- the digits of the bytes so far are written
use Rattle.std.proofs.Common.{◌≡◌, take}
use Rattle.std.specs.Io.KnownBytes.{Appends}
use Rattle.rv_gdb.specs.Shown.{digits_of}
use Rattle.rv_gdb.proofs.shown.write_digits.Given as goal

abbrev pub invariant-loop-byte : goal.invariant-loop-byte
invariant-loop-byte g l =
    record {
      written : Appends (g.O.Output.written l.fn.writer) (g.O.Output.written l.writer) (digits_of (take l.byte-index l.bytes));
      failed : g.O.Output.has_failed l.writer ≡ g.O.Output.has_failed l.fn.writer;
    }
