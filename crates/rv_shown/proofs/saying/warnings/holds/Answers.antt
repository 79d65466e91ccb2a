use Rattle.std.proofs.Common.{◌∙◌, ap, sym}
use Rattle.rv_shown.specs.Outcome.{Outcome}
use Rattle.rv_shown.specs.Warnings.{holds, tried_few}
use Rattle.rv_shown.proofs.saying.warnings.holds.Goals as goal

pub returns-in-ManyUntried : goal.returns-in-ManyUntried
returns-in-ManyUntried c = c.tried_few.ensures ∙ ap (λ (o : Outcome). tried_few o.saw) c.outcome.view_is ∙ ap (holds c.args.outcome.now) (sym c.in-ManyUntried.is)
