use Rattle.std.proofs.Common.{◌+◌, ◌-◌, ◌*◌}
use Rattle.rv_campaign.proofs.workers.+fn-pieces-scope+pieces.Given as goal

abbrev pub decreases-scope : goal.decreases-scope
decreases-scope g l = 2 * (l.work.now.workers - l.worker)

abbrev pub decreases-pieces : goal.decreases-pieces
decreases-pieces g l = 2 * (l.work.now.workers - l.worker) + 1
