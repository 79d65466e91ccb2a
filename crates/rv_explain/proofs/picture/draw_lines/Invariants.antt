-- what is open in the page, and what is told of it, stays
use Rattle.std.proofs.Common.{◌≡◌}
use Rattle.rv_explain.proofs.picture.draw_lines.Given as goal

abbrev pub invariant-loop-n : goal.invariant-loop-n
invariant-loop-n l = l.page ≡ l.fn.page
