-- those of the races so far
use Rattle.std.proofs.Common.{All}
use Rattle.std.specs.Map.{keys_of}
use Rattle.rv_remade.specs.internal.OrderShowing.{IsWanted}
use Rattle.rv_remade.proofs.orders.wanted_of.Given as goal

abbrev pub invariant-loop-place : goal.invariant-loop-place
invariant-loop-place l = All (IsWanted l.table (keys_of l.rows)) l.wanted.items
