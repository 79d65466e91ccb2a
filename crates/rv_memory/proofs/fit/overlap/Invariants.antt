-- a region that was looked at meets none of those after it
use Rattle.std.proofs.Common.{◌≡◌, length}
use Rattle.rv_memory.specs.Memory.{overlaps}
use Rattle.rv_memory.proofs.fit.overlap.Given as goal

abbrev pub invariant-loop-rest : goal.invariant-loop-rest
invariant-loop-rest l = overlaps l.regions ≡ overlaps l.rest

abbrev pub decreases-loop-rest : goal.decreases-loop-rest
decreases-loop-rest l = length l.rest
