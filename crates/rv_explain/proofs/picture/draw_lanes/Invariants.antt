-- what is open in the page, and what is told of it, stays
use Rattle.std.proofs.Common.{◌≡◌}
use Rattle.rv_explain.proofs.picture.draw_lanes.Given as goal

abbrev pub invariant-loop-hart : goal.invariant-loop-hart
invariant-loop-hart l = l.page ≡ l.fn.page
