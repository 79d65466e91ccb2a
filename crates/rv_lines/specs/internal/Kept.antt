-- Lines as they are kept: each by its address and its text.
use Rattle.std.specs.Prelude.{ℕ, nat_le, if◌then◌else◌, List, []}
use Rattle.std.specs.List.{fold}
use Rattle.std.specs.List.Sorted.{IsNonDecreasingBy}
use Rattle.rv_lines.specs.SourceLines.{SourceFrame, SourceLine, frames_in}
use Rattle.rv_lines.specs.declared.lines.KeptLine.{KeptLine}

abbrev pub line_with : List ℕ → ℕ → SourceLine
line_with text address = record { address = address; frames = frames_in text }

abbrev pub line_of : KeptLine → SourceLine
line_of kept = line_with kept.text.items kept.address

abbrev pub AreAscending : List KeptLine → Type 0
AreAscending lines = IsNonDecreasingBy (λ (l : KeptLine). l.address) lines

abbrev pub told_from : ℕ → List SourceFrame → KeptLine → List SourceFrame
told_from address frames kept = if nat_le kept.address address then frames_in kept.text.items else frames

-- the frames of the last line at or below an address
unfoldable pub told_at : List KeptLine → ℕ → List SourceFrame
told_at lines address = fold (told_from address) [] lines
