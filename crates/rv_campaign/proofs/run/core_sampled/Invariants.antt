use Rattle.std.proofs.Common.{◌≡◌, ◌+◌, ◌-◌, length}
use Rattle.rv_campaign.specs.Run.{sampling_of}
use Rattle.rv_campaign.specs.internal.Driving.{IsDriving}
use Rattle.rv_collide.specs.Numbers.{numbers}
use Rattle.rv_collide.specs.Plan.{most_entries}
use Rattle.rv_collide.specs.Stored.{setting_of}
use Rattle.rv_campaign.proofs.run.core_sampled.Given as goal

abbrev pub invariant-loop-words : goal.invariant-loop-words
invariant-loop-words l = record {
  driving : IsDriving (setting_of l.driver) (sampling_of l.sampler l.words.seed l.words.stream) l.driver.entries l.words.taken;
  image : l.driver.image ≡ l.image;
  plan : l.driver.plan ≡ numbers l.fn.plan;
  seed : l.words.seed ≡ l.seed;
  stream : l.words.stream ≡ l.run;
}

abbrev pub decreases-loop-words : goal.decreases-loop-words
decreases-loop-words l = most_entries l.driver.plan + 1 - length l.driver.entries
