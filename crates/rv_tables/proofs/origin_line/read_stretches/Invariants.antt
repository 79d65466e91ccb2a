-- what the words say behind the stretches so far is what all of them say
use Rattle.std.proofs.Common.{◌≡◌, [], length}
use Rattle.rv_tables.specs.Origin.{stretches_in}
use Rattle.rv_tables.proofs.origin_line.read_stretches.Given as goal

abbrev pub invariant-words : goal.invariant-words
invariant-words l = stretches_in [] l.initial.words ≡ stretches_in l.stretches.items l.words

abbrev pub decreases-words : goal.decreases-words
decreases-words l = length l.words
