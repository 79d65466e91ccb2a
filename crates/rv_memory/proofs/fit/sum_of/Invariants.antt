use Rattle.std.proofs.Common.{◌≡◌, ◌+◌, min, sum_by, take}
use Rattle.rv_memory.specs.declared.store.TheConstants.{LIMIT}
use Rattle.rv_memory.specs.Extent.{Extent}
use Rattle.rv_memory.proofs.fit.sum_of.Given as goal

abbrev pub invariant-loop-region : goal.invariant-loop-region
invariant-loop-region l =
    l.sum ≡ min (l.before + sum_by (λ (e : Extent). e.len) (take l.region-index l.regions)) (LIMIT + 1)
