use Rattle.std.proofs.Common.{◌≡◌, ◌++◌, take}
use Rattle.rv_elf.specs.Written.{halves}
use Rattle.rv_elf.proofs.put.halves.Given as goal

abbrev pub invariant-loop-value : goal.invariant-loop-value
invariant-loop-value l = l.out.items ≡ l.initial.out.items ++ halves (take l.value-index l.values)
