-- the ends so far are of this hunt
use Rattle.std.proofs.Common.{◌≡◌, is_some}
use Rattle.rv_remade.specs.StuckShown.{AreStuckShown}
use Rattle.rv_remade.proofs.stuck_ends.stuck_ends.Given as goal

abbrev pub invariant-loop-row : goal.invariant-loop-row
invariant-loop-row g l = record {
  wanted : is_some l.folder ≡ is_some l.fn.folder;
  shown : AreStuckShown l.hunt l.shown.items;
}
