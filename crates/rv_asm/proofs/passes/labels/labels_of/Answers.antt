use Rattle.std.proofs.Common.{[], ◌++◌, ap, ◌∙◌}
use Rattle.std.specs.List.{cons_option}
use Rattle.rv_asm.proofs.LabelLemmas.{labels-more, labels-done}
use Rattle.rv_asm.proofs.passes.labels.labels_of.Goals as goal

pub loop-p-preserved : goal.loop-p-preserved
loop-p-preserved c =
    labels-more c.loop-p.labels c.add_some.new.labels _ c.in-Some.p c.loop-p.lines c.next_line.new.self c.in-Some.ensures.taken (c.in_ok-add_some.ensures {u = tt} ∙ ap (λ o. c.loop-p.labels ++ cons_option o []) c.label_at.ensures) c.loop-p.invariant

pub returns : goal.returns
returns c = labels-done c.loop-p.labels _ c.loop-p.lines c.in_default.ensures.taken.0 c.loop-p.invariant
