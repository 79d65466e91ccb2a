use Rattle.std.proofs.Common.{◌∙◌, ◌++◌, ap, map, take}
use Rattle.rv_report.specs.Races.{races}
use Rattle.rv_engines.specs.Campaigns.{with_class}
use Rattle.rv_engines.proofs.RunLists.{own}
use Rattle.rv_engines.proofs.RunTables.{one_added}
use Rattle.rv_engines.proofs.run.table.add_run.Goals as goal

pub loop-i-preserved : goal.loop-i-preserved
loop-i-preserved g c told is =
    c.in_ok-add.ensures.ok (told ++ take c.loop-i.i (map (with_class c.args.image.now c.args.ranges.now c.args.run) c.args.endings.now)) (c.loop-i.invariant told is)
    ∙ ap races (one_added c.args.image.now c.args.ranges.now c.args.run c.args.endings.now c.in_ok-found.found.items c.loop-i.i _ c.index.result.now told c.in_ok-found.ensures c.loop-i-test.true (own c.args.endings.now c.loop-i.i _ c.loop-i-test.true) c.index.ensures)
