use Rattle.std.proofs.Common.{length}
use Rattle.rv_explain.proofs.names.Names.add_inlined.Given as goal

abbrev pub decreases-loop-frame : goal.decreases-loop-frame
decreases-loop-frame l = length l.frames
