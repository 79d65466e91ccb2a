use Rattle.std.proofs.Common.{◌<◌, length, ◌∙◌, arith}
use Rattle.std.proofs.lemmas.Option.{slice_get-get_or}
use Rattle.rv_collide.specs.Entries.{steps}
use Rattle.rv_collide.specs.declared.entry.Entry.TheVariants.{Stepped}
use Rattle.rv_report.proofs.StillPaused.{steps_passed}
use Rattle.rv_report.proofs.exhibiting.steps.Goals as goal

pub loop-i-init : goal.loop-i-init
unfolding steps
loop-i-init c = c.new-harts.ensures.items

pub loop-i-preserved : goal.loop-i-preserved
loop-i-preserved c =
    let below : c.loop-i.i < length c.args.entries.now = omega arith in
    c.in_ok-add_step.ensures
    ∙ steps_passed c.loop-i.harts.items c.args.entries.now c.loop-i.i _ (slice_get-get_or c.args.entries.now c.loop-i.i (Stepped 0) below) c.loop-i.invariant
