use Rattle.std.proofs.Common.{◌<◌, ◌∙◌, length, rules, arith}
use Rattle.rv_races.proofs.RaceLemmas.{races_passed}
use Rattle.rv_races.specs.Races.{races_of}
use Rattle.rv_races.proofs.races.races_of.Goals as goal

pub loop-i-init : goal.loop-i-init
unfolding races_of
loop-i-init c = search rules

pub loop-i-preserved : goal.loop-i-preserved
loop-i-preserved c =
    let below : c.loop-i.i < length c.args.reports.now = omega arith in
    c.in_ok-add_report.ensures ∙ races_passed c.loop-i.races.items c.args.reports.now c.loop-i.i _ below c.loop-i.invariant
