-- the elements so far and those of the rest are those of the text
use Rattle.std.proofs.Common.{◌≡◌, ◌++◌, map, length}
use denote.Text.{Utf8}
use denote.Shadow.{shadow}
use Rattle.rv_text.specs.Pieces.{pieces_of}
use Rattle.rv_engines.proofs.run.lists.split.Given as goal

abbrev pub invariant-loop-element : goal.invariant-loop-element
invariant-loop-element l = shadow (Utf8 l.rest) × (map (λ element. element.now) l.found.items ++ pieces_of 44 l.rest ≡ pieces_of 44 l.text)

abbrev pub decreases-loop-element : goal.decreases-loop-element
decreases-loop-element l = length l.rest
