use Rattle.std.proofs.Common.{ap, subst, List, ℕ}
use Rattle.rv_campaign.specs.Run.{IsRunOver}
use Rattle.rv_collide.specs.Numbers.{numbers}
use Rattle.rv_campaign.proofs.run.run_one.Goals as goal

pub returns : goal.returns
returns c =
    subst (λ (sites : List ℕ). IsRunOver c.args.image.now (numbers c.args.plan) sites c.args.seed c.args.run c.left_by.result) c.in_ok-sampler.ensures
    (c.left_by.ensures.run (record { image = c.args.image.now; sites = c.in_ok-sampler.sampler; seed = c.args.seed }) (numbers c.args.plan) c.args.run c.in_ok-core.ensures)
