use Rattle.std.proofs.Common.{ap}
use Rattle.std.specs.Prelude.{not}
use Rattle.rv_tables.specs.merge.Ignore as spec
use Rattle.rv_tables.proofs.IgnoredRowLemmas.{row_more}
use Rattle.rv_tables.proofs.merge.parted.part_rows.Goals as goal

pub loop-row-preserved : goal.loop-row-preserved
loop-row-preserved c =
    let found = c.in_ok-is_ignored.ensures in (
      row_more (spec.is_told c.args.symbols.now c.args.ignores.now) c.args.rows.now c.loop-row.row-index _ (not c.in_ok-is_ignored.is_ignored) c.loop-row.parted.told.items c.add.new.parted.told.items c.loop-row-test.true (ap not found) c.loop-row.invariant.0 c.in_ok-add.ensures.told,
      row_more (spec.is_ignored c.args.symbols.now c.args.ignores.now) c.args.rows.now c.loop-row.row-index _ c.in_ok-is_ignored.is_ignored c.loop-row.parted.ignored.items c.add.new.parted.ignored.items c.loop-row-test.true found c.loop-row.invariant.1 c.in_ok-add.ensures.ignored,
    )
