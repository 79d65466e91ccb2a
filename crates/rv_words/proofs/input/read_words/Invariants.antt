use Rattle.std.proofs.Common.{length}
use Rattle.rv_words.proofs.InputSoFar.{WordsSoFar}
use Rattle.rv_words.proofs.input.read_words.Given as goal

abbrev pub invariant-loop-line : goal.invariant-loop-line
invariant-loop-line l = WordsSoFar l.initial.lines l.lines l.words.items

abbrev pub decreases-loop-line : goal.decreases-loop-line
decreases-loop-line l = length l.lines
