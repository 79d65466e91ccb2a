-- the regions so far are filled
use Rattle.std.proofs.Common.{◌≡◌, take, map}
use Rattle.rv_memory.specs.Extent.{filled}
use Rattle.rv_memory.proofs.flat.fill_all.Given as goal

abbrev pub invariant-loop-region : goal.invariant-loop-region
invariant-loop-region l = l.all.items ≡ map filled (take l.region-index l.regions)
