-- The placed lines of what is left of a source.
use Rattle.std.proofs.Common.{◌≡◌, ℕ, ◌%◌, List, [], ◌∷◌, Some, Ok, refl, ap, sym, ◌∙◌}
use Rattle.rv_asm.specs.SourceLine.{line_said}
use Rattle.rv_asm.proofs.AlignedLemmas.{said_whole}
use Rattle.rv_asm.specs.Size.{size_of}
use Rattle.rv_asm.specs.declared.statement.Section.TheVariants.{Text}
use Rattle.rv_asm.specs.declared.statement.Statement.{Statement}
use Rattle.rv_asm.specs.Layout.{placed, source_lines, next_place, line_at}
use Rattle.rv_asm.specs.declared.passes.place.Place.{Place}
use Rattle.rv_asm.specs.declared.passes.place.PlacedLine.{PlacedLine}

pub placed-none : (place : Place) (rest : List ℕ) → rest ≡ [] → placed place (source_lines rest) ≡ []
unfolding placed source_lines
placed-none place rest is = rw is refl

pub placed-some : (place : Place) (rest text after : List ℕ) (p : PlacedLine) → source_lines rest ≡ text ∷ source_lines after → p ≡ line_at place text → placed place (source_lines rest) ≡ p ∷ placed (next_place p) (source_lines after)
unfolding placed
placed-some place rest text after p is said = rw (is, said) refl

-- a statement of `.text` takes whole words
pub line_at-aligned : (place : Place) (text : List ℕ) (s : Statement) → (line_at place text).place.section ≡ Text → (line_at place text).line.statement ≡ Ok (Some s) → size_of s % 4 ≡ 0
unfolding line_at
line_at-aligned place text s in_text said =
    said_whole text s (ap (λ t. (line_said t text).statement) (sym in_text) ∙ said)
