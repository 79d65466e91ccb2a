-- what is open in the text, and what is told of it, stays
use Rattle.std.proofs.Common.{◌≡◌}
use Rattle.rv_explain.proofs.object.stuck.hart_objects.Given as goal

abbrev pub invariant-loop-h : goal.invariant-loop-h
invariant-loop-h l = l.json ≡ l.fn.json
