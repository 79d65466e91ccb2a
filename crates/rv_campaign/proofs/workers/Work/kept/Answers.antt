use Rattle.rv_collide.specs.Numbers.{numbers}
use Rattle.rv_campaign.proofs.PieceLemmas.{kept_of}
use Rattle.rv_campaign.proofs.workers.Work.kept.Goals as goal

pub returns : goal.returns
returns g c =
    let w = c.args.self.now in
    kept_of (g.K.Keep.keeps w.keep.now) (record { image = w.image.now; sites = w.sampler.now; seed = w.seed }) (numbers w.plan) c.args.run c.in_ok-core.core c.keep.result
    c.in_ok-core.ensures c.keep.ensures
