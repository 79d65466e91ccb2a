-- what is read of the lines that are left is what is read of all
use Rattle.std.proofs.Common.{◌≡◌, ◌∷◌, length}
use Rattle.rv_tables.specs.HuntRead.{rows_in}
use Rattle.rv_tables.proofs.reading.read_rows.Given as goal

abbrev pub invariant-lines : goal.invariant-lines
invariant-lines l = rows_in l.format l.initial.rows (l.initial.first ∷ l.initial.lines) ≡ rows_in l.format l.rows (l.line ∷ l.lines)

abbrev pub decreases-lines : goal.decreases-lines
decreases-lines l = length l.lines
