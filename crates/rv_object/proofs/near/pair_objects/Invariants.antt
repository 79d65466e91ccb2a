-- what is open in the text, and what is told of it, stays
use Rattle.std.proofs.Common.{◌≡◌}
use Rattle.rv_object.proofs.near.pair_objects.Given as goal

abbrev pub invariant-loop-pair : goal.invariant-loop-pair
invariant-loop-pair l = l.json ≡ l.fn.json
