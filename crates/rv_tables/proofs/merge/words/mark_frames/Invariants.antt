-- marking those that are left comes to the same
use Rattle.std.proofs.Common.{◌≡◌, List, Bool, length}
use Rattle.rv_tables.specs.internal.Words.{MarksFrames, count}
use Rattle.rv_tables.proofs.merge.words.mark_frames.Given as goal

abbrev pub invariant-loop-frame : goal.invariant-loop-frame
invariant-loop-frame l =
    (length l.marks.items ≡ count l.words) × ((last : List Bool) → MarksFrames l.words l.frames l.marks.items last → MarksFrames l.words l.fn.frames l.fn.marks.items last)

abbrev pub decreases-loop-frame : goal.decreases-loop-frame
decreases-loop-frame l = length l.frames
