use Rattle.std.proofs.Common.{◌≡◌, take}
use Rattle.rv_elf.proofs.image.copies_of_regions.Given as goal

abbrev pub invariant-loop-region : goal.invariant-loop-region
invariant-loop-region l = l.copies.items ≡ take l.region-index l.regions
