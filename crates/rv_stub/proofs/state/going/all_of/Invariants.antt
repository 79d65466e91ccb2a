-- the actions so far and those that are left are the packet's
use Rattle.std.proofs.Common.{◌≡◌, ◌++◌, length}
use Rattle.rv_stub.proofs.state.going.all_of.Given as goal

abbrev pub invariant-loop-action : goal.invariant-loop-action
invariant-loop-action l = l.fn.actions ≡ l.all.items ++ l.left

abbrev pub decreases-loop-action : goal.decreases-loop-action
decreases-loop-action l = length l.left
