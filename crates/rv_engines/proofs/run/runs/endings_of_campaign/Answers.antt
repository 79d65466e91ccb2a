use Rattle.std.proofs.lemmas.Result.{IfOk-weaker}
use Rattle.rv_engines.proofs.RunKept.{are_of_runs}
use Rattle.rv_engines.proofs.run.runs.endings_of_campaign.Goals as goal

pub returns-clause-ok : goal.returns-clause-ok
returns-clause-ok g c =
    IfOk-weaker c.kept_campaign.result _ _ (λ kept are. are_of_runs c.args.image.now c.args.options.now.plan c.args.options.now.seed c.args.excluded.now c.args.options.now.runs kept.items (rw c.from.ensures at are)) c.kept_campaign.ensures.ok
