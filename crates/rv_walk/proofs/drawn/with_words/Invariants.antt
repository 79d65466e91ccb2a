use Rattle.std.specs.Prelude.{◌≡◌, ◌+◌, ◌≤◌, length}
use Rattle.std.specs.List.{All}
use Rattle.rv_walk.specs.NearPair.{IsNearPair}
use Rattle.rv_walk.specs.Walked.{Walked}
use Rattle.rv_walk.specs.internal.Drawn.{AreWorded}
use Rattle.rv_walk.proofs.drawn.with_words.Given as goal

abbrev pub invariant-loop-place : goal.invariant-loop-place
invariant-loop-place l = record {
  are : (walk : Walked) → All (IsNearPair walk) l.pairs → AreWorded walk l.order.items;
  taken : l.words.taken ≤ l.initial.words.taken + l.place;
}
