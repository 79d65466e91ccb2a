use Rattle.std.proofs.lemmas.Result.{IfOk-weaker}
use Rattle.rv_campaign.specs.Run.{Hunt}
use Rattle.rv_collide.specs.Numbers.{numbers}
use Rattle.rv_campaign.proofs.PieceLemmas.{are_runs}
use Rattle.rv_campaign.proofs.runs.campaign.Goals as goal

pub returns-clause-ok : goal.returns-clause-ok
returns-clause-ok g c =
    let hunt : Hunt = record { image = c.args.image.now; plan = numbers c.args.plan; seed = c.args.seed; excluded = c.args.excluded.now } in
    IfOk-weaker c.kept_campaign.result _ _ (λ told kept. are_runs hunt c.args.runs told.items kept) c.kept_campaign.ensures.ok
