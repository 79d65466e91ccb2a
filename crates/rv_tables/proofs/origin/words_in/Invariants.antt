-- the words so far and those that are left are those of the text
use Rattle.std.proofs.Common.{◌≡◌, ◌++◌, length, map}
use Rattle.rv_tables.specs.Origin.{words_in as words_are}
use Rattle.rv_tables.proofs.origin.words_in.Given as goal

abbrev pub invariant-loop-word : goal.invariant-loop-word
invariant-loop-word l = map (λ word. word.now) l.words.items ++ l.pieces ≡ words_are l.text

abbrev pub decreases-loop-word : goal.decreases-loop-word
decreases-loop-word l = length l.pieces
