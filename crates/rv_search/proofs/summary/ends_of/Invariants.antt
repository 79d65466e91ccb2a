use Rattle.std.proofs.Common.{◌≡◌, ◌≤◌, map, take}
use Rattle.rv_search.specs.Summary.{end_of}
use Rattle.rv_search.proofs.summary.ends_of.Given as goal

abbrev pub invariant-loop-h : goal.invariant-loop-h
invariant-loop-h l = record {
  within : l.h ≤ l.h-end;
  so_far : l.ends.items ≡ map end_of (take l.h l.machine.state.harts);
}
