-- the trials so far are added
use Rattle.std.proofs.Common.{◌≡◌, map, take}
use Rattle.std.specs.List.{fold}
use Rattle.rv_tables.specs.Orders.{added, row_of}
use Rattle.rv_tables.proofs.orders.OrderTable.add_all.Given as goal

abbrev pub invariant-loop-one : goal.invariant-loop-one
invariant-loop-one l = l.self ≡ fold added l.initial.self (map (row_of l.run) (take l.one-index l.tried))
