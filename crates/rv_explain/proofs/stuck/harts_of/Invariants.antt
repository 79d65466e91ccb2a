-- what the harts so far do, and where their functions return to
use Rattle.std.proofs.Common.{◌≡◌, List, length, map, take}
use Rattle.rv_explain.specs.Stuck.{AreCalled, does, shown_as}
use Rattle.rv_explain.specs.declared.stuck.ReadBytes.{ReadBytes}
use Rattle.rv_stuck.specs.declared.stuck.Doing.{Doing}
use Rattle.rv_explain.proofs.stuck.harts_of.Given as goal

abbrev pub invariant-loop-h : goal.invariant-loop-h
invariant-loop-h l = record {
  same : l.machine ≡ l.initial.machine;
  count : length l.harts.items ≡ l.h;
  called : AreCalled l.symbols.image l.initial.machine.state l.harts.items;
  shown : (of : Doing → List ReadBytes) → l.reads ≡ map of l.end.harts.items → map shown_as l.harts.items ≡ map (λ doing. does doing (of doing)) (take l.h l.end.harts.items);
}
