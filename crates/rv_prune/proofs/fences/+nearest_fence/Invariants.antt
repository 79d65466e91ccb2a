-- the words that are left
use Rattle.std.proofs.Common.{length}
use Rattle.rv_prune.proofs.fences.+nearest_fence.Given as goal

abbrev pub decreases-nearest_fence : goal.decreases-nearest_fence
decreases-nearest_fence l = length l.addresses.now
