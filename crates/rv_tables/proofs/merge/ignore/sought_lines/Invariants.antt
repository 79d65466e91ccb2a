-- the lines so far, by numbers that later words leave as they are
use Rattle.std.proofs.Common.{take}
use Rattle.std.specs.List.{AllZip}
use Rattle.rv_tables.specs.internal.Sought.{IsSought}
use Rattle.rv_tables.specs.internal.Words.{AreNumbered}
use Rattle.rv_tables.proofs.merge.ignore.sought_lines.Given as goal

abbrev pub invariant-loop-line : goal.invariant-loop-line
invariant-loop-line l = AreNumbered l.words × AllZip (IsSought l.words) (take l.line-index l.lines) l.sought.items
