use Rattle.std.proofs.Common.{◌≡◌, ◌++◌, All, map, take}
use Rattle.rv_collide.specs.Joined.{ending_later}
use Rattle.rv_collide.specs.internal.Joins.{IsPlaced}
use Rattle.rv_collide.proofs.join.endings_joined.Given as goal

abbrev pub invariant-loop-ending : goal.invariant-loop-ending
invariant-loop-ending l = All (IsPlaced l.by) l.ended → l.endings.items ≡ l.told ++ map (ending_later l.by) (take l.ending-index l.ended)
