-- what is open in the text, and what is told of it, stays
use Rattle.std.proofs.Common.{◌≡◌}
use Rattle.rv_explain.proofs.object.stuck.read_objects.Given as goal

abbrev pub invariant-loop-read : goal.invariant-loop-read
invariant-loop-read l = l.json ≡ l.fn.json
