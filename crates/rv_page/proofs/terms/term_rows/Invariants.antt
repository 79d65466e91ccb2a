-- each row has ended
use Rattle.std.proofs.Common.{◌≡◌}
use Rattle.rv_page.proofs.terms.term_rows.Given as goal

abbrev pub invariant-loop-term : goal.invariant-loop-term
invariant-loop-term l = l.page ≡ l.fn.page
