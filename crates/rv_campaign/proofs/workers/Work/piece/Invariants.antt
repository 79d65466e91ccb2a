use Rattle.std.proofs.Common.{◌≤◌}
use Rattle.rv_collide.specs.Numbers.{numbers}
use Rattle.rv_campaign.specs.internal.Pieces.{AreKeptBetween}
use Rattle.rv_campaign.proofs.workers.Work.piece.Given as goal

abbrev pub invariant-loop-run : goal.invariant-loop-run
invariant-loop-run g l = record {
  within : l.run ≤ l.end;
  runs : AreKeptBetween (g.K.Keep.keeps l.self.keep.now) (record { image = l.self.image.now; sites = l.self.sampler.now; seed = l.self.seed }) (numbers l.self.plan) l.begin l.run l.kept.items;
}
