use Rattle.std.proofs.Common.{length, ◌-◌}
use Rattle.rv_asm.proofs.TextLemmas.{NoneBefore}
use Rattle.rv_asm.proofs.reading.text.cut.Given as goal

abbrev pub invariant-loop-at : goal.invariant-loop-at
invariant-loop-at l = NoneBefore l.stop l.text l.at

abbrev pub decreases-loop-at : goal.decreases-loop-at
decreases-loop-at l = length l.text - l.at
