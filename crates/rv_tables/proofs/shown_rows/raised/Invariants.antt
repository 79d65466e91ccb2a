-- the count with those so far
use Rattle.std.proofs.Common.{◌≡◌, ◌+◌, take}
use Rattle.std.specs.List.{fold}
use Rattle.rv_collide.specs.Counts.{saturated}
use Rattle.rv_tables.specs.declared.shown_rows.Placed.{Placed}
use Rattle.rv_tables.proofs.shown_rows.raised.Given as goal

abbrev pub invariant-loop-one : goal.invariant-loop-one
invariant-loop-one l = l.count ≡ fold (λ n (one : Placed). saturated (n + one.row.count)) l.row.count (take l.one-index l.more)
