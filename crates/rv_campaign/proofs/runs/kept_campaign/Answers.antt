use Rattle.std.proofs.Common.{arith}
use Rattle.std.proofs.lemmas.Result.{IfOk-weaker}
use Rattle.rv_campaign.specs.Run.{Hunt}
use Rattle.rv_collide.specs.Numbers.{numbers}
use Rattle.rv_campaign.proofs.PieceLemmas.{are_kept_of}
use Rattle.rv_campaign.proofs.runs.kept_campaign.Goals as goal

pub returns-clause-ok : goal.returns-clause-ok
returns-clause-ok g c =
    let h = c.args.hunt.now in
    let hunt : Hunt = record { image = h.image.now; plan = numbers h.plan; seed = h.seed; excluded = h.excluded.now } in
    IfOk-weaker c.pieces.result _ _ (λ kept between. are_kept_of (g.K.Keep.keeps c.args.keep.now) hunt c.args.runs kept.items between c.in_ok-sampler.ensures (search arith) (omega arith)) c.pieces.ensures.ok
