use Rattle.std.proofs.Common.{sym, ◌∙◌}
use Rattle.rv_collide.specs.Stored.{setting_of}
use Rattle.rv_drive.specs.Sampling.{sampling_of}
use Rattle.rv_drive.proofs.FirstLemmas.{draw_more, entries_as, no_draws, one_taken, taken_as}
use Rattle.rv_drive.proofs.driver.Driver.first_draws.Goals as goal

pub loop-init : goal.loop-init
loop-init c = record {
  core = entries_as c.args.self.now _ (c.requires.none ∙ sym (no_draws (setting_of c.args.self.now) (sampling_of c.args.sampler.now c.args.words.now.seed c.args.words.now.stream)));
  words = taken_as c.args.words.now 0 c.requires.taken;
}

pub loop-preserved : goal.loop-preserved
loop-preserved c = record {
  core = draw_more c.args.self.now c.loop.self c.draw.new.self c.args.sampler.now c.args.words.now c.loop.words c.loop.counter c.loop.invariant.core c.loop.invariant.words c.draw.ensures.core;
  words = one_taken c.args.words.now c.loop.words c.draw.new.words c.loop.counter c.loop.invariant.words c.draw.ensures.words;
}
