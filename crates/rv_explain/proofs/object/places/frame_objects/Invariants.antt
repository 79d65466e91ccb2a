use Rattle.std.proofs.Common.{◌≡◌, length}
use Rattle.rv_explain.proofs.object.places.frame_objects.Given as goal

abbrev pub invariant-loop-frame : goal.invariant-loop-frame
invariant-loop-frame l = l.json ≡ l.fn.json

abbrev pub decreases-loop-frame : goal.decreases-loop-frame
decreases-loop-frame l = length l.frames
