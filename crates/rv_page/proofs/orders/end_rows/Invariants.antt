-- what was open stays open
use Rattle.std.proofs.Common.{◌≡◌}
use Rattle.rv_page.proofs.orders.end_rows.Given as goal

abbrev pub invariant-loop-n : goal.invariant-loop-n
invariant-loop-n l = l.page ≡ l.fn.page
