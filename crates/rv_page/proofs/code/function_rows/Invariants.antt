use Rattle.std.specs.Prelude.{◌≡◌}
use Rattle.rv_page.proofs.code.function_rows.Given as goal

abbrev pub invariant-loop-function : goal.invariant-loop-function
invariant-loop-function l = l.page ≡ l.fn.page
