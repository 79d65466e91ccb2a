-- the names of the symbols so far are marked
use Rattle.std.proofs.Common.{◌≡◌, length, take}
use Rattle.rv_tables.specs.internal.Words.{AreMarks}
use Rattle.rv_tables.proofs.merge.words.marks_of.Given as goal

abbrev pub invariant-loop-symbol : goal.invariant-loop-symbol
invariant-loop-symbol l = (length l.marks.items ≡ l.count) × AreMarks (take l.symbol-index l.symbols) l.marks.items
