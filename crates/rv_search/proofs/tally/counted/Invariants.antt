-- the ends so far are counted
use Rattle.std.proofs.Common.{◌≡◌, take}
use Rattle.rv_search.specs.Tally.{exits, traps}
use Rattle.rv_search.proofs.tally.counted.Given as goal

abbrev pub invariant-loop-end : goal.invariant-loop-end
invariant-loop-end l = record {
  exits : l.exits ≡ exits (take l.end-index l.ends);
  traps : l.traps ≡ traps (take l.end-index l.ends);
}
