-- the total so far
use Rattle.std.proofs.Common.{◌≡◌, ◌*◌, ◌^◌, ◌≤◌, map, take}
use Rattle.std.specs.List.{sum_by}
use Rattle.rv_elf.proofs.stretch.total.Given as goal

abbrev pub invariant-loop-stretch : goal.invariant-loop-stretch
invariant-loop-stretch g l = record {
  sum : l.total ≡ sum_by (λ e. e.len) (map g.S.Stretch.extent (take l.stretch-index l.stretches));
  bound : l.total ≤ l.stretch-index * 2 ^ 32;
}
