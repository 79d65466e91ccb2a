-- the rows so far are added
use Rattle.std.proofs.Common.{◌≡◌, ◌++◌, map}
use Rattle.std.specs.List.{fold}
use Rattle.std.specs.Map.Iter.{deref_pair}
use Rattle.rv_tables.specs.Rows.{added}
use Rattle.rv_tables.proofs.table.HuntTable.merge.Given as goal

abbrev pub invariant-loop-key : goal.invariant-loop-key
invariant-loop-key l =
    record {
      left : map deref_pair l.yielded ++ l.key-iterator ≡ l.later;
      rows : l.self ≡ fold added l.initial.self (map deref_pair l.yielded);
    }
