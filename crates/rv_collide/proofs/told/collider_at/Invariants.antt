-- the core after the entries so far
use Rattle.std.proofs.Common.{◌≡◌, take}
use Rattle.rv_collide.specs.Numbers.{numbers}
use Rattle.rv_collide.specs.Stored.{stored}
use Rattle.rv_collide.proofs.told.collider_at.Given as goal

abbrev pub invariant-loop-i : goal.invariant-loop-i
invariant-loop-i l = l.collider ≡ stored l.image (numbers l.fn.plan) (take l.i l.entries)
