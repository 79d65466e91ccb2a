use Rattle.std.specs.List.{All}
use Rattle.rv_walk.specs.NearPair.{IsNearPair}
use Rattle.rv_walk.specs.Walked.{Walked}
use Rattle.rv_walk.proofs.drawn.push_often.Given as goal

abbrev pub invariant-loop : goal.invariant-loop
invariant-loop l = (walk : Walked) → All (IsNearPair walk) l.initial.all.items → IsNearPair walk l.pair → All (IsNearPair walk) l.all.items
