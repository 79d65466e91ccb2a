use Rattle.std.proofs.Common.{ℕ, List, [], ◌∷◌, ◌++◌, ap, ◌∙◌}
use Rattle.rv_report.specs.Exhibit.{harts_to}
use Rattle.rv_report.proofs.exhibiting.harts_to.Goals as goal

pub returns : goal.returns
unfolding harts_to
returns c = c.in_ok-push.ensures.items ∙ ap (λ (hs : List ℕ). hs ++ c.args.paused ∷ []) c.in_ok-harts.ensures
