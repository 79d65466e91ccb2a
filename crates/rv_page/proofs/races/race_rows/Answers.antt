use Rattle.std.proofs.Common.{arith}
use Rattle.rv_page.proofs.PageLemmas.{rows_step}
use Rattle.rv_page.proofs.races.race_rows.Goals as goal

pub loop-n-preserved : goal.loop-n-preserved
loop-n-preserved c = rows_step c.args.full c.args.told.now c.loop-n.n _ _ _ _ (omega arith) c.loop-n.invariant c.in_ok-page.ensures
