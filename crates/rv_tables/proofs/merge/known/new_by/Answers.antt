use Rattle.rv_tables.specs.declared.merge.known.Known.TheVariants as known
use Rattle.rv_tables.specs.merge.Known as spec
use Rattle.rv_tables.proofs.IgnoredRowLemmas.{row_more}
use Rattle.rv_tables.proofs.merge.known.new_by.Goals as goal

pub loop-race-preserved : goal.loop-race-preserved
loop-race-preserved c =
    row_more (spec.is_new c.args.symbols.now (known.Lines c.args.lines.now)) c.args.races.now c.loop-race.race-index _ c.in_ok-is_new.is_new c.loop-race.found.items c.add_if.new.found.items c.loop-race-test.true c.in_ok-is_new.ensures c.loop-race.invariant c.in_ok-add_if.ensures
