use Rattle.std.proofs.Common.{◌≡◌, ℕ, ◌+◌, [], ◌∷◌, refl, subst, ◌∙◌, arith}
use Rattle.rv_campaign.specs.Kept.{Source}
use Rattle.rv_campaign.specs.internal.Pieces.{AreKeptBetween, first_of}
use Rattle.rv_collide.specs.Numbers.{numbers}
use Rattle.rv_campaign.proofs.PieceLemmas.{joined, one_kept}
use Rattle.rv_campaign.proofs.workers.Work.piece.Goals as goal

pub loop-run-preserved : goal.loop-run-preserved
loop-run-preserved g c =
    let w = c.args.self.now in
    let source : Source = record { image = w.image.now; sites = w.sampler.now; seed = w.seed } in
    let below = c.loop-run-test.true in
    record {
      within = omega (arith, below);
      runs = joined (g.K.Keep.keeps w.keep.now) source (numbers w.plan) c.first_of-begin.result c.loop-run.run (c.loop-run.run + 1) c.loop-run.kept.items (c.in_ok-one.one ∷ []) c.push.new.self.items c.loop-run.invariant.runs
          (one_kept (g.K.Keep.keeps w.keep.now) source (numbers w.plan) c.loop-run.run (c.loop-run.run + 1) c.in_ok-one.one refl c.in_ok-one.ensures.ok)
          c.in_ok-push.ensures.items;
    }

pub returns-clause-ok : goal.returns-clause-ok
returns-clause-ok g c =
    let w = c.args.self.now in
    let source : Source = record { image = w.image.now; sites = w.sampler.now; seed = w.seed } in
    let over = c.loop-run-test.false in
    let within = c.loop-run.invariant.within in
    let here : c.loop-run.run ≡ c.first_of-end.result = omega (arith, over, within) in
    subst (λ (b : ℕ). AreKeptBetween (g.K.Keep.keeps w.keep.now) source (numbers w.plan) b (first_of w.count w.workers (c.args.worker + 1)) c.loop-run.kept.items) {y = first_of w.count w.workers c.args.worker} c.first_of-begin.ensures.is
    (subst (λ (e : ℕ). AreKeptBetween (g.K.Keep.keeps w.keep.now) source (numbers w.plan) c.first_of-begin.result e c.loop-run.kept.items) {y = first_of w.count w.workers (c.args.worker + 1)} (here ∙ c.first_of-end.ensures.is) c.loop-run.invariant.runs)
