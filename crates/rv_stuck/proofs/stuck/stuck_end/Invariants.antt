use Rattle.std.proofs.Common.{◌≡◌}
use Rattle.rv_stuck.specs.internal.Doings.{AreDoings}
use Rattle.rv_stuck.proofs.stuck.stuck_end.Given as goal

abbrev pub invariant-loop-h : goal.invariant-loop-h
invariant-loop-h g l = (l.machine ≡ l.initial.machine) × AreDoings l.initial.machine.state l.h l.harts.items
