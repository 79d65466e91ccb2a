-- the kinds so far are counted
use Rattle.std.proofs.Common.{◌≡◌, ◌++◌, drop, map, take}
use Rattle.rv_search.specs.Kinds.{counted}
use Rattle.rv_search.proofs.tally.kinds.count_among.Given as goal

abbrev pub invariant-loop-kind : goal.invariant-loop-kind
invariant-loop-kind l = l.kinds ≡ map (counted l.end) (take l.kind-index l.initial.kinds) ++ drop l.kind-index l.initial.kinds
