use Rattle.std.proofs.Common.{ap, ◌∙◌}
use Rattle.rv_collide.specs.Stored.{Stored}
use Rattle.rv_collide.specs.Numbers.{numbers}
use Rattle.rv_sample.specs.Generator.{Given}
use Rattle.rv_campaign.proofs.GoingLemmas.{made, opened_drives}
use Rattle.rv_campaign.proofs.run.core_sampled.Goals as goal

pub loop-words-init : goal.loop-words-init
loop-words-init c = record {
  driving = opened_drives c.draws_owed.ensures c.in_ok-driver.driver c.args.image.now (numbers c.args.plan) c.args.sampler.now c.new-words.result c.open.new.words c.in_ok-driver.ensures.core c.in_ok-driver.ensures.words;
  image = ap (λ (s : Stored). s.image) c.in_ok-driver.ensures.core;
  plan = ap (λ (s : Stored). s.plan) c.in_ok-driver.ensures.core;
  seed = ap (λ (w : Given). w.seed) c.in_ok-driver.ensures.words ∙ ap (λ (w : Given). w.seed) c.new-words.ensures;
  stream = ap (λ (w : Given). w.stream) c.in_ok-driver.ensures.words ∙ ap (λ (w : Given). w.stream) c.new-words.ensures ∙ c.from.ensures;
}

pub returns : goal.returns
returns c =
    made (record { image = c.args.image.now; sites = c.args.sampler.now; seed = c.args.seed }) (numbers c.args.plan) c.args.run c.go_on.new.driver c.into_collider.result c.go_on.new.words
    (c.go_on.ensures.same.image ∙ c.loop-words.invariant.image)
    (c.go_on.ensures.same.plan ∙ c.loop-words.invariant.plan)
    (c.go_on.ensures.same.seed ∙ c.loop-words.invariant.seed)
    (c.go_on.ensures.same.stream ∙ c.loop-words.invariant.stream)
    c.go_on.ensures.driving (c.go_on.ensures.over c.loop-words-test.false) c.into_collider.ensures
