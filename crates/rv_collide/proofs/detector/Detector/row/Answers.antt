use Rattle.std.proofs.Common.{◌<◌, length, arith, refl}
use Rattle.std.proofs.lemmas.Option.{slice_get-get_or}
use Rattle.rv_collide.specs.declared.entry.Entry.TheVariants.{Stepped}
use Rattle.rv_collide.proofs.RowLemmas.{row_goes_on}
use Rattle.rv_collide.proofs.detector.Detector.row.Goals as goal

pub loop-i-preserved : goal.loop-i-preserved
loop-i-preserved g c =
    let below : c.loop-i.i < length c.args.entries.now = omega arith in
    let there = slice_get-get_or c.args.entries.now c.loop-i.i (Stepped 0) below in
    row_goes_on c.what_no_step_does.ensures.other_harts c.args.self.now c.loop-i.self c.step_again.new.self c.args.entries.now c.args.able.now c.args.is_watched c.loop-i.i c.args.end _ c.loop-i.invariant there (c.if-not-step_again.ensures.steps refl)
