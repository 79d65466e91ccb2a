-- the words so far are in the text, and the others are left
use Rattle.std.proofs.Common.{◌≡◌, ◌++◌, length}
use Rattle.std.specs.Option.{option_copied}
use Rattle.rv_tables.specs.Origin.{words_text}
use Rattle.rv_tables.specs.OriginRead.{onto}
use Rattle.rv_tables.proofs.origin_line.rest_text.Given as goal

abbrev pub invariant-words : goal.invariant-words
invariant-words l = words_text (onto (option_copied l.initial.first) l.initial.words) ≡ l.text.items ++ words_text (onto (option_copied l.next) l.words)

abbrev pub decreases-words : goal.decreases-words
decreases-words l = length (onto (option_copied l.next) l.words)
