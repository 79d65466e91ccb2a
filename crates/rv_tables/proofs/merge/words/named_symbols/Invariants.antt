-- the symbols so far whose names are words
use Rattle.std.proofs.Common.{◌≡◌, take}
use Rattle.std.specs.List.{filter_map}
use Rattle.rv_tables.specs.internal.Words.{named_by}
use Rattle.rv_tables.proofs.merge.words.named_symbols.Given as goal

abbrev pub invariant-loop-symbol : goal.invariant-loop-symbol
invariant-loop-symbol l = l.named.items ≡ filter_map (named_by l.words) (take l.symbol-index l.image.symbols)
