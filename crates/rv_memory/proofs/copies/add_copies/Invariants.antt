use Rattle.std.proofs.Common.{◌≡◌, ◌++◌, ◌*◌, replicate}
use Rattle.rv_memory.specs.declared.copies.TheConstants.{AT_ONCE}
use Rattle.rv_memory.proofs.copies.add_copies.Given as goal

abbrev pub invariant-loop : goal.invariant-loop
invariant-loop g l = l.list.items ≡ l.initial.list.items ++ replicate (l.counter * AT_ONCE) l.fn.value
