use Rattle.std.proofs.Common.{◌∙◌, ◌∷◌, ◌++◌, [], List, ap, subst, sym}
use Rattle.rv_remade.proofs.ShowingLemmas.{of_sampled, one_part}
use Rattle.rv_remade.specs.declared.shown.ShownPart.{ShownPart}
use Rattle.rv_remade.specs.internal.Showing.{AreShownIn}
use Rattle.rv_remade.proofs.shown.InFull.sampled.Goals as goal

pub returns : goal.returns
returns c =
    let full = c.args.self.now in
    let part = c.in_ok-part.part in
    let items = c.in_ok-push.ensures.items ∙ ap (λ (parts : List ShownPart). parts ++ part ∷ []) c.new-parts.ensures.items in
    subst (AreShownIn full) (sym items)
    (one_part full c.args.run c.in_ok-left.left part (of_sampled full.hunt.now c.args.run c.in_ok-left.left c.requires c.in_ok-left.ensures.run) c.in_ok-part.ensures)
