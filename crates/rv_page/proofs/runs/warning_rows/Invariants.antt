-- the rows so far have ended
use Rattle.std.proofs.Common.{◌≡◌}
use Rattle.rv_page.proofs.runs.warning_rows.Given as goal

abbrev pub invariant-loop-warning : goal.invariant-loop-warning
invariant-loop-warning l = l.page ≡ l.fn.page
