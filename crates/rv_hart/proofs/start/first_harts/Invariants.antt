use Rattle.std.proofs.Common.{◌≡◌, map, vec_len}
use Rattle.std.specs.List.{range_with_len}
use Rattle.rv_hart.specs.State.{first_hart}
use Rattle.rv_hart.proofs.start.first_harts.Given as goal

abbrev pub invariant-loop-h : goal.invariant-loop-h
invariant-loop-h l =
    (l.harts.items ≡ map (first_hart l.entry l.count) (range_with_len 0 l.h)) × (vec_len l.harts ≡ l.h)
