-- the words that are left
use Rattle.std.proofs.Common.{length}
use Rattle.rv_prune.proofs.waits.+first_branch.Given as goal

abbrev pub decreases-first_branch : goal.decreases-first_branch
decreases-first_branch l = length l.addresses.now
