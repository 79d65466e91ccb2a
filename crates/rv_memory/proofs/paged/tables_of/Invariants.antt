-- the tables so far are those of the regions so far
use Rattle.std.proofs.Common.{◌≡◌, take, map}
use Rattle.rv_memory.specs.Pages.{extent}
use Rattle.rv_memory.proofs.paged.tables_of.Given as goal

abbrev pub invariant-loop-region : goal.invariant-loop-region
invariant-loop-region l = map extent l.tables.items ≡ take l.region-index l.regions
