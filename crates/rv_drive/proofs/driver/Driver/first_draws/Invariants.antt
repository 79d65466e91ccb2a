use Rattle.std.proofs.Common.{◌≡◌}
use Rattle.rv_drive.specs.Draws.{draws}
use Rattle.rv_collide.specs.Stored.{setting_of}
use Rattle.rv_drive.specs.Sampling.{sampling_of}
use Rattle.rv_drive.proofs.driver.Driver.first_draws.Given as goal

abbrev pub invariant-loop : goal.invariant-loop
invariant-loop l = record {
  core : l.self ≡ record l.initial.self { entries = draws (setting_of l.initial.self) (sampling_of l.sampler l.initial.words.seed l.initial.words.stream) l.counter };
  words : l.words ≡ record l.initial.words { taken = l.counter };
}
