use Rattle.std.proofs.Common.{◌+◌, ap, subst, ◌∙◌}
use Rattle.rv_campaign.specs.Kept.{Source}
use Rattle.rv_campaign.specs.internal.Pieces.{AreKeptBetween, first_of}
use Rattle.rv_collide.specs.Numbers.{numbers}
use Rattle.rv_campaign.proofs.PieceLemmas.{joined, last_ends, none_kept}
use Rattle.rv_campaign.proofs.workers.+fn-pieces-scope+pieces.Goals as goal

pub scope-returns : goal.scope-returns
scope-returns g t c =
    let w = c.captures.work.now in
    let source : Source = record { image = w.image.now; sites = w.sampler.now; seed = w.seed } in (
      joined (g.K.Keep.keeps w.keep.now) source (numbers w.plan)
          (first_of w.count w.workers c.captures.worker)
          (first_of w.count w.workers (c.captures.worker + 1))
          w.count
          c.in_ok-kept.kept.items c.in_ok-others.field-0.items c.append.new.self.items
          (subst (λ p. AreKeptBetween (g.K.Keep.keeps p.work.now.keep.now) (record { image = p.work.now.image.now; sites = p.work.now.sampler.now; seed = p.work.now.seed }) (numbers p.work.now.plan) (first_of p.work.now.count p.work.now.workers p.worker) (first_of p.work.now.count p.work.now.workers (p.worker + 1)) c.in_ok-kept.kept.items) c.in-Ok.ensures.ok c.in_ok-kept.ensures.0)
          c.in_ok-others.ensures.ok c.in_ok-append.ensures.items,
      tt,
    )

pub returns-then-worker-work-clause-ok : goal.returns-then-worker-work-clause-ok
returns-then-worker-work-clause-ok g t c =
    let w = c.args.work.now in
    none_kept (g.K.Keep.keeps w.keep.now) (record { image = w.image.now; sites = w.sampler.now; seed = w.seed }) (numbers w.plan) (first_of w.count w.workers c.args.worker) w.count c.new.result.items
    (ap (first_of w.count w.workers) c.if-worker-work.true ∙ last_ends w.count w.workers c.requires.workers.0) c.new.ensures.items
