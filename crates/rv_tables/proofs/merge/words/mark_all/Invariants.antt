-- the functions of the lines so far are marked
use Rattle.std.proofs.Common.{◌≡◌, length, take}
use Rattle.rv_tables.specs.internal.Words.{MarksLines, count}
use Rattle.rv_tables.proofs.merge.words.mark_all.Given as goal

abbrev pub invariant-loop-number : goal.invariant-loop-number
invariant-loop-number l = (length l.marks.items ≡ count l.words) × MarksLines l.words (take l.number l.lines) l.fn.marks.items l.marks.items
