-- each of the lines so far has known words
use Rattle.std.proofs.Common.{◌≡◌, drop}
use Rattle.rv_tables.specs.internal.Sought.{first_unknown}
use Rattle.rv_tables.proofs.merge.sought.first_unknown.Given as goal

abbrev pub invariant-loop-line : goal.invariant-loop-line
invariant-loop-line l = first_unknown l.known l.lines ≡ first_unknown l.known (drop l.line-index l.lines)
