-- the bytes of the names so far
use Rattle.std.proofs.Common.{◌≡◌, ◌+◌, length, take}
use Rattle.std.specs.List.{sum_by}
use Rattle.rv_elf.proofs.places.strings_len.Given as goal

abbrev pub invariant-loop-symbol : goal.invariant-loop-symbol
invariant-loop-symbol l = l.len ≡ 1 + sum_by (λ s. length s.name + 1) (take l.symbol-index l.symbols)
