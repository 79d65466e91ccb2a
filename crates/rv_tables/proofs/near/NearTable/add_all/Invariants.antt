-- the rows so far are added
use Rattle.std.proofs.Common.{◌≡◌, take}
use Rattle.std.specs.List.{fold}
use Rattle.rv_tables.specs.Near.{added}
use Rattle.rv_tables.proofs.near.NearTable.add_all.Given as goal

abbrev pub invariant-loop-row : goal.invariant-loop-row
invariant-loop-row l = l.self ≡ fold added l.initial.self (take l.row-index l.rows)
