-- the regions so far are copied
use Rattle.std.proofs.Common.{◌≡◌, take}
use Rattle.rv_memory.proofs.flat.copy_all.Given as goal

abbrev pub invariant-loop-region : goal.invariant-loop-region
invariant-loop-region l = l.copies.items ≡ take l.region-index l.regions.items
