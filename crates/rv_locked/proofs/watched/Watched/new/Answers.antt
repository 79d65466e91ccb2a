use Rattle.rv_collide.specs.Numbers.{numbers}
use Rattle.rv_locked.proofs.WatchLemmas.{opened_is, opened_watches}
use Rattle.rv_locked.proofs.watched.Watched.new.Goals as goal

pub invariant_of-result : goal.invariant_of-result
invariant_of-result c =
    opened_watches c.draws_owed.ensures c.in_ok-driver.driver c.args.image.now c.in_ok-image.image (numbers c.args.plan) c.args.seed c.in_ok-sampler.sampler c.new-words.result c.open.new.words
    (opened_is c.in_ok-driver.driver c.args.image.now (numbers c.args.plan) c.args.seed c.in_ok-sampler.sampler c.new-words.result c.new-words.ensures c.in_ok-sampler.ensures c.in_ok-driver.ensures.core)
    c.new-words.ensures c.in_ok-driver.ensures.words c.in_ok-sampler.ensures c.in_ok-image.ensures
