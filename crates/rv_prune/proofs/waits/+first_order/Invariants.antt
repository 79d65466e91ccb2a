-- the words that are left
use Rattle.rv_prune.proofs.waits.+first_order.Given as goal

abbrev pub decreases-first_order : goal.decreases-first_order
decreases-first_order l = l.left
