-- the places so far, and those of the rest of the text
use Rattle.std.proofs.Common.{◌≡◌, ◌++◌, drop}
use Rattle.rv_elf.specs.internal.Steps.{starts_in}
use Rattle.rv_elf.proofs.names.push_starts.Given as goal

abbrev pub invariant-loop-place : goal.invariant-loop-place
invariant-loop-place l = l.starts.items ++ starts_in (drop l.place l.text) ≡ l.fn.starts.items ++ starts_in l.text
