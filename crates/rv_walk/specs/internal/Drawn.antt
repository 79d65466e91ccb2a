-- The near pairs of a walk in the order in which they are drawn.
use Rattle.std.specs.Prelude.{List}
use Rattle.std.specs.List.{All}
use Rattle.rv_walk.specs.NearPair.{IsNearPair}
use Rattle.rv_walk.specs.Walked.{Walked}
use Rattle.rv_walk.specs.declared.drawn.Worded.{Worded}

-- each is a near pair of the walk
abbrev pub AreWorded : Walked → List Worded → Type 0
AreWorded walk = All (λ (it : Worded). IsNearPair walk it.pair)
