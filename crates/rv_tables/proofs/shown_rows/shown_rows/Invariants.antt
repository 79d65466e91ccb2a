-- how the rows so far are shown
use Rattle.std.proofs.Common.{◌≡◌, filter_map, take}
use Rattle.rv_tables.specs.ShownRows.{shown_row}
use Rattle.rv_tables.proofs.shown_rows.shown_rows.Given as goal

abbrev pub invariant-loop-row : goal.invariant-loop-row
invariant-loop-row l = l.shown.items ≡ filter_map (shown_row l.placed.items) (take l.row-index l.told)
