use Rattle.std.proofs.Common.{◌≡◌, Some, map, take, drop, ◌++◌}
use Rattle.rv_hart.specs.Step as spec
use Rattle.rv_hart.specs.internal.Harts.{any_holds}
use Rattle.rv_hart.proofs.effect.see_write.Given as goal

abbrev pub invariant-loop-hart : goal.invariant-loop-hart
invariant-loop-hart l =
    (l.harts ≡ map (spec.seen_by (Some l.write)) (take l.hart-index l.initial.harts) ++ drop l.hart-index l.initial.harts)
    × (l.is_held ≡ any_holds (map (spec.seen_by (Some l.write)) (take l.hart-index l.initial.harts)))
