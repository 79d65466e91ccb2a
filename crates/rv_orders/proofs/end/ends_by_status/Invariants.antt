use Rattle.rv_orders.specs.internal.Ends.{AreFirstEnds}
use Rattle.rv_orders.proofs.end.ends_by_status.Given as goal

abbrev pub invariant-loop-h : goal.invariant-loop-h
invariant-loop-h g l = AreFirstEnds l.is_over l.machine.state l.h l.ends.items
