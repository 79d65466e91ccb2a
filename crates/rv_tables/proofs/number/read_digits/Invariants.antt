use Rattle.std.proofs.Common.{take}
use Rattle.rv_tables.proofs.NumberLemmas.{SoFar}
use Rattle.rv_tables.proofs.number.read_digits.Given as goal

abbrev pub invariant-loop-byte : goal.invariant-loop-byte
invariant-loop-byte l = SoFar l.number (take l.byte-index l.text)
