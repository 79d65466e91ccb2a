-- what is left decides
use Rattle.std.proofs.Common.{◌≡◌}
use Rattle.rv_lines.specs.SourceLines.{are_frames}
use Rattle.rv_lines.proofs.checks.are_frames.Given as goal

abbrev pub invariant-loop-left : goal.invariant-loop-left
invariant-loop-left l = are_frames l.left l.pieces ≡ are_frames 64 l.fn.pieces

abbrev pub decreases-loop-left : goal.decreases-loop-left
decreases-loop-left l = l.left
