-- the races so far, in the same run
use Rattle.std.proofs.Common.{◌≡◌, All}
use Rattle.rv_explain.specs.Races.{run_of}
use Rattle.rv_remade.specs.internal.Showing.{IsPlaced}
use Rattle.rv_remade.proofs.shown.InFull.races.Given as goal

abbrev pub invariant-loop-n : goal.invariant-loop-n
invariant-loop-n l = record {
  shown : All (IsPlaced l.self l.of.run (run_of l.initial.session) l.harts) l.shown.items;
  same : run_of l.session ≡ run_of l.initial.session;
  image : l.session.image ≡ l.initial.session.image;
}
