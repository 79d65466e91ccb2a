-- the last of the pieces that are left, or what was taken last
use Rattle.std.proofs.Common.{◌≡◌, length}
use Rattle.rv_lines.specs.SourceLines.{last_of, number_in}
use Rattle.rv_lines.proofs.checks.number_in.Given as goal

abbrev pub invariant-loop-piece : goal.invariant-loop-piece
invariant-loop-piece l = last_of l.last l.pieces ≡ number_in l.fn.place

abbrev pub decreases-loop-piece : goal.decreases-loop-piece
decreases-loop-piece l = length l.pieces
