-- what is left meets exactly where the whole does
use Rattle.std.proofs.Common.{◌≡◌, map, drop}
use Rattle.rv_memory.specs.Memory.{overlaps}
use Rattle.rv_elf.proofs.stretch.meet.Given as goal

abbrev pub invariant-loop-k : goal.invariant-loop-k
invariant-loop-k g l =
    overlaps (map g.S.Stretch.extent (drop l.k l.stretches)) ≡ overlaps (map g.S.Stretch.extent l.stretches)
