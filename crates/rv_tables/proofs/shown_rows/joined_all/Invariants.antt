-- one row of those so far
use Rattle.std.proofs.Common.{◌≡◌, take}
use Rattle.std.specs.List.{fold}
use Rattle.rv_tables.specs.ShownRows.{joined_first}
use Rattle.rv_tables.proofs.shown_rows.joined_all.Given as goal

abbrev pub invariant-loop-one : goal.invariant-loop-one
invariant-loop-one l = l.row ≡ fold joined_first l.first (take l.one-index l.later)
