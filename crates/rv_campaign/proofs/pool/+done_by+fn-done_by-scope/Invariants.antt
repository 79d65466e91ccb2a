use Rattle.std.proofs.Common.{◌+◌, ◌*◌}
use Rattle.rv_campaign.proofs.pool.+done_by+fn-done_by-scope.Given as goal

abbrev pub decreases-done_by : goal.decreases-done_by
decreases-done_by g l = 2 * l.workers + 1

abbrev pub decreases-scope : goal.decreases-scope
decreases-scope g l = 2 * l.workers
