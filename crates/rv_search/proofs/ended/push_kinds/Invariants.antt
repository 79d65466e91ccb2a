-- the kinds so far have their rows
use Rattle.std.proofs.Common.{◌≡◌, ◌++◌, map, take}
use Rattle.rv_search.specs.EndedRows.{row_of}
use Rattle.rv_search.proofs.ended.push_kinds.Given as goal

abbrev pub invariant-loop-kind : goal.invariant-loop-kind
invariant-loop-kind l = l.rows.items ≡ l.fn.rows.items ++ map row_of (take l.kind-index l.kinds.told)
