use Rattle.std.proofs.Common.{◌∙◌}
use Rattle.std.specs.Map.Iter.{deref_pair}
use Rattle.rv_tables.proofs.MergeLemmas.{added_next}
use Rattle.rv_tables.proofs.Written.{left_next}
use Rattle.rv_tables.proofs.table.HuntTable.merge.Goals as goal

pub loop-key-preserved : goal.loop-key-preserved
loop-key-preserved c =
    record {
      left = left_next deref_pair c.loop-key.yielded (c.in-Some.key, c.in-Some.row) _ _ _ c.in-Some.ensures.steps c.loop-key.invariant.left;
      rows = c.in_ok-add.ensures.ok ∙ added_next deref_pair _ _ c.loop-key.yielded (c.in-Some.key, c.in-Some.row) c.loop-key.invariant.rows;
    }
