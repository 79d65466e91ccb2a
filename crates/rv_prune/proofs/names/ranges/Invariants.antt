use Rattle.std.proofs.Common.{◌≡◌, map, take}
use Rattle.std.specs.List.{flat_map}
use Rattle.rv_prune.specs.Ranges as spec
use Rattle.rv_prune.proofs.names.ranges.Given as goal

-- the ranges of the names so far
abbrev pub invariant-loop-name : goal.invariant-loop-name
invariant-loop-name l =
    l.ranges.items ≡ flat_map (spec.named_ranges l.image) (map (λ name. name.now) (take l.name-index l.names))
