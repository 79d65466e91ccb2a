-- none of the lines so far fits
use Rattle.std.proofs.Common.{◌≡◌, take, false}
use Rattle.std.specs.List.{list_any}
use Rattle.rv_tables.specs.internal.Sought.{line_fits}
use Rattle.rv_tables.proofs.merge.sought.any_fits.Given as goal

abbrev pub invariant-loop-line : goal.invariant-loop-line
invariant-loop-line l = list_any (line_fits l.race) (take l.line-index l.lines) ≡ false
