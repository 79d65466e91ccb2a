use Rattle.std.proofs.Common.{refl, sym, ap, ◌∙◌}
use Rattle.rv_explain.proofs.Ranges.{fold_more}
use Rattle.rv_explain.proofs.frame.stage_after.Goals as goal
use Rattle.rv_explain.specs.Frame.{stage_after, with_word}
use Rattle.rv_explain.specs.declared.frame.Stage.{Stage}
use Rattle.rv_explain.specs.declared.frame.Stage.TheVariants.{Entered}

pub loop-k-init : goal.loop-k-init
unfolding stage_after
loop-k-init c = refl

pub loop-k-preserved : goal.loop-k-preserved
unfolding stage_after
loop-k-preserved c =
    c.with_word-stage.ensures
    ∙ ap (λ (stage : Stage). with_word c.args.image.now c.args.start stage c.loop-k.k) c.loop-k.invariant
    ∙ sym (fold_more (with_word c.args.image.now c.args.start) Entered c.loop-k.k)
