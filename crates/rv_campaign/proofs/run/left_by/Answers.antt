use Rattle.rv_campaign.proofs.GoingLemmas.{finished}
use Rattle.rv_campaign.proofs.run.left_by.Goals as goal

pub returns-clause-run : goal.returns-clause-run
returns-clause-run c = λ source plan run is_core.
    finished source.image plan source.sites source.seed run c.args.core c.finish.result is_core c.finish.ensures.plan c.finish.ensures.entries c.finish.ensures.endings c.finish.ensures.output
