-- the lines so far, and those of the pieces that are left, are those of the text
use Rattle.std.proofs.Common.{◌≡◌, Bool, ◌+◌, ◌≤◌, length}
use Rattle.rv_tables.specs.declared.merge.ignore.Line.{Line}
use Rattle.rv_tables.specs.internal.Shaped.{judged}
use Rattle.rv_tables.specs.merge.Ignore.{lines_from}
use Rattle.rv_tables.proofs.merge.ignore.shaped_lines.Given as goal

abbrev pub invariant-loop-text : goal.invariant-loop-text
invariant-loop-text l =
    (l.line + length l.pieces ≤ length l.fn.text + 2) × ((known : Line → Bool) → lines_from known 1 l.initial.pieces ≡ judged known l.lines.items (lines_from known l.line l.pieces))

abbrev pub decreases-loop-text : goal.decreases-loop-text
decreases-loop-text l = length l.pieces
