-- what is open in the text, and what is told of it, stays
use Rattle.std.proofs.Common.{◌≡◌}
use Rattle.rv_object.proofs.given.pieces.Given as goal

abbrev pub invariant-loop-piece : goal.invariant-loop-piece
invariant-loop-piece l = l.json ≡ l.fn.json
