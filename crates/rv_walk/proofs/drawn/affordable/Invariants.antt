use Rattle.std.specs.List.{All}
use Rattle.rv_walk.specs.NearPair.{IsNearPair}
use Rattle.rv_walk.specs.Walked.{Walked}
use Rattle.rv_walk.specs.internal.Drawn.{AreWorded}
use Rattle.rv_walk.proofs.drawn.affordable.Given as goal

abbrev pub invariant-loop-it : goal.invariant-loop-it
invariant-loop-it l = (walk : Walked) → AreWorded walk l.order → All (IsNearPair walk) l.drawn.items
