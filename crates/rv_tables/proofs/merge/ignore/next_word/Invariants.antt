-- what is taken has no bytes
use Rattle.std.proofs.Common.{◌≡◌, filter, length}
use Rattle.rv_tables.specs.merge.Ignore.{has_bytes}
use Rattle.rv_tables.proofs.merge.ignore.next_word.Given as goal

abbrev pub invariant-loop-word : goal.invariant-loop-word
invariant-loop-word l = filter has_bytes l.pieces ≡ filter has_bytes l.initial.pieces

abbrev pub decreases-loop-word : goal.decreases-loop-word
decreases-loop-word l = length l.pieces
