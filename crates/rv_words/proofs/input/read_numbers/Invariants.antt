use Rattle.std.proofs.Common.{length}
use Rattle.rv_text.specs.Pieces.{pieces_of}
use Rattle.rv_words.proofs.InputSoFar.{NumbersSoFar}
use Rattle.rv_words.proofs.input.read_numbers.Given as goal

abbrev pub invariant-loop-number : goal.invariant-loop-number
invariant-loop-number l = NumbersSoFar (pieces_of 32 l.text) l.numbers l.steps.items

abbrev pub decreases-loop-number : goal.decreases-loop-number
decreases-loop-number l = length l.numbers
