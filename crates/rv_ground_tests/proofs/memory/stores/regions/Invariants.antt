-- the regions so far are extents
use Rattle.std.proofs.Common.{All}
use Rattle.rv_memory.specs.Extent.{IsExtent}
use Rattle.rv_ground_tests.proofs.memory.stores.regions.Given as goal

abbrev pub invariant-loop-start : goal.invariant-loop-start
invariant-loop-start g l = All IsExtent l.regions.items
