-- the codes so far, and those of the pieces that are left, are those of all
use Rattle.std.proofs.Common.{◌≡◌, ◌++◌, length}
use Rattle.std.specs.Prelude.{filter_map}
use Rattle.rv_search.specs.RightEnds.{code_of}
use Rattle.rv_search.proofs.end_runs.codes_in.Given as goal

abbrev pub invariant-loop-piece : goal.invariant-loop-piece
invariant-loop-piece l = l.codes.items ++ filter_map code_of l.pieces ≡ filter_map code_of l.initial.pieces

abbrev pub decreases-loop-piece : goal.decreases-loop-piece
decreases-loop-piece l = length l.pieces
