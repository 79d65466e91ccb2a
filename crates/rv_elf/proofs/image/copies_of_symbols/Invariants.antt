use Rattle.std.proofs.Common.{◌≡◌, take}
use Rattle.rv_elf.proofs.image.copies_of_symbols.Given as goal

abbrev pub invariant-loop-symbol : goal.invariant-loop-symbol
invariant-loop-symbol l = l.copies.items ≡ take l.symbol-index l.symbols
