-- the rows so far are parted
use Rattle.std.proofs.Common.{◌≡◌, filter, take}
use Rattle.rv_tables.specs.merge.Ignore as spec
use Rattle.rv_tables.proofs.merge.parted.part_rows.Given as goal

abbrev pub invariant-loop-row : goal.invariant-loop-row
invariant-loop-row l =
    (l.parted.told.items ≡ filter (spec.is_told l.symbols l.ignores) (take l.row-index l.rows)) × (l.parted.ignored.items ≡ filter (spec.is_ignored l.symbols l.ignores) (take l.row-index l.rows))
