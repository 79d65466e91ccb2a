use Rattle.std.proofs.Common.{◌≡◌, ◌++◌, map, take}
use Rattle.std.specs.List.{filter}
use Rattle.rv_prune.specs.Ranges as spec
use Rattle.rv_prune.proofs.names.add_ranges.Given as goal

-- the ranges of the symbols so far
abbrev pub invariant-loop-symbol : goal.invariant-loop-symbol
invariant-loop-symbol l =
    l.ranges.items ≡ l.initial.ranges.items ++ map spec.range_of (filter (spec.has_name l.name) (take l.symbol-index l.symbol-items))
