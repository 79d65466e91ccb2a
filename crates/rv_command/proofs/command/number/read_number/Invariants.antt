use Rattle.std.proofs.Common.{take}
use Rattle.rv_command.proofs.NumberLemmas.{SoFar}
use Rattle.rv_command.proofs.command.number.read_number.Given as goal

abbrev pub invariant-loop-byte : goal.invariant-loop-byte
invariant-loop-byte l = SoFar l.limit l.number (take l.byte-index l.text)
