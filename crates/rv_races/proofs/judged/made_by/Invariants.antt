-- the machine is at the place, and what the entries before it accessed is known
use Rattle.std.proofs.Common.{◌≡◌, Some, map}
use Rattle.std.specs.List.{range_with_len}
use Rattle.rv_collide.specs.First.{seen_at}
use Rattle.rv_collide.specs.StateAt.{state_at}
use Rattle.rv_races.proofs.judged.made_by.Given as goal

abbrev pub invariant-loop-n : goal.invariant-loop-n
invariant-loop-n g l = record {
  here : state_at l.initial.machine.state l.entries l.n ≡ Some l.machine.state;
  made : l.made.items ≡ map (seen_at l.initial.machine.state l.entries) (range_with_len 0 l.n);
}
