use Rattle.std.proofs.Common.{◌∙◌, sym, ap, take, get_or, length, ◌<◌, arith}
use Rattle.rv_report.specs.Races.{races}
use Rattle.rv_engines.specs.Campaigns.{told_from}
use Rattle.rv_engines.proofs.RunLists.{own}
use Rattle.rv_engines.proofs.RunTables.{endings_more, none_told}
use Rattle.rv_engines.proofs.run.table.table_of.Goals as goal

pub loop-run-init : goal.loop-run-init
loop-run-init g c = λ runs are. c.new-table.ensures ∙ ap races (sym (none_told c.args.image.now c.args.ranges.now))

pub loop-run-preserved : goal.loop-run-preserved
loop-run-preserved g c = λ runs are.
    let within : c.loop-run.run < length c.args.ended.now = omega arith in
    rw c.deref.ensures.value at (c.in_ok-add_run.ensures (told_from c.args.image.now c.args.ranges.now 0 (take c.loop-run.run runs)) (c.loop-run.invariant runs are))
    ∙ ap races (endings_more c.args.image.now c.args.ranges.now runs c.args.ended.now c.loop-run.run _ are within c.index-ended-run.is)
