-- the cell is open
use Rattle.std.proofs.Common.{◌≡◌, suc}
use Rattle.rv_page.proofs.terms.lines_cell.Given as goal

abbrev pub invariant-loop-line : goal.invariant-loop-line
invariant-loop-line l = l.page ≡ record l.fn.page { depth = suc l.fn.page.depth }
