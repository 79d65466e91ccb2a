use Rattle.std.proofs.Common.{◌≡◌, ◌++◌, length}
use Rattle.rv_asm.specs.Layout.{labels_of, lines_placed}
use Rattle.rv_asm.proofs.passes.labels.labels_of.Given as goal

abbrev pub invariant-loop-p : goal.invariant-loop-p
invariant-loop-p l = l.labels ++ labels_of l.lines ≡ labels_of (lines_placed l.source)

abbrev pub decreases-loop-p : goal.decreases-loop-p
decreases-loop-p l = length l.lines
