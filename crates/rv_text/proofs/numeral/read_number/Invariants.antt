use Rattle.std.proofs.Common.{take}
use Rattle.rv_text.proofs.NumberLemmas.{SoFar}
use Rattle.rv_text.proofs.numeral.read_number.Given as goal

abbrev pub invariant-loop-byte : goal.invariant-loop-byte
invariant-loop-byte l = SoFar l.radix l.limit l.number (take l.byte-index l.text)
