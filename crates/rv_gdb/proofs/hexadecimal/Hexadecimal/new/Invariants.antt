-- what was passed are zeros in front
use Rattle.std.proofs.Common.{◌≡◌, ◌-◌, ◌≤◌}
use Rattle.std.specs.Prelude.{drop}
use Rattle.rv_gdb.specs.Stops.{without_zeros}
use Rattle.rv_gdb.proofs.hexadecimal.Hexadecimal.new.Given as goal

abbrev pub invariant-loop-first : goal.invariant-loop-first
invariant-loop-first l = record {
  same : without_zeros (drop l.first l.digits) ≡ without_zeros l.digits;
  within : l.first ≤ 7;
}

abbrev pub decreases-loop-first : goal.decreases-loop-first
decreases-loop-first l = 7 - l.first
