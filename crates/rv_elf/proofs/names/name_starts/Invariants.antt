-- the places so far, and those of the rest
use Rattle.std.proofs.Common.{◌≡◌, ◌++◌, length}
use Rattle.rv_elf.specs.internal.Steps.{name_starts}
use Rattle.rv_elf.proofs.names.name_starts.Given as goal

abbrev pub invariant-loop-text : goal.invariant-loop-text
invariant-loop-text l = l.starts.items ++ name_starts l.rest ≡ name_starts l.strings

abbrev pub decreases-loop-text : goal.decreases-loop-text
decreases-loop-text l = length l.rest
