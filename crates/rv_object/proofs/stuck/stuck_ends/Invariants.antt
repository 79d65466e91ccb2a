-- what is open in the text, and what is told of it, stays
use Rattle.std.proofs.Common.{◌≡◌}
use Rattle.rv_object.proofs.stuck.stuck_ends.Given as goal

abbrev pub invariant-loop-n : goal.invariant-loop-n
invariant-loop-n l = l.json ≡ l.fn.json
