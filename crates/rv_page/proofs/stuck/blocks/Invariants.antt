use Rattle.std.specs.Prelude.{◌≡◌}
use Rattle.rv_page.proofs.stuck.blocks.Given as goal

abbrev pub invariant-loop-n : goal.invariant-loop-n
invariant-loop-n l = l.page ≡ l.fn.page
