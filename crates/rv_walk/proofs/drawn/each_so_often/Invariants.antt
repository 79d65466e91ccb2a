use Rattle.std.specs.List.{All}
use Rattle.rv_walk.specs.NearPair.{IsNearPair}
use Rattle.rv_walk.specs.Walked.{Walked}
use Rattle.rv_walk.proofs.drawn.each_so_often.Given as goal

abbrev pub invariant-loop-pair : goal.invariant-loop-pair
invariant-loop-pair l = (walk : Walked) → All (IsNearPair walk) l.pairs → All (IsNearPair walk) l.all.items
