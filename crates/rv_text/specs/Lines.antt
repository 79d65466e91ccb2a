-- The lines of a text.
use Rattle.std.specs.Prelude.{◌≡◌, ℕ, ◌==◌, Bool, false, if◌then◌else◌, List, [], ◌∷◌, ◌++◌}
use Rattle.std.specs.List.{onto_first, flat_map, list_any}

-- the lines of a text: an LF (10) ends each of them, and only the last may lack its own
abbrev pub lines_of : List ℕ → List (List ℕ)
lines_of [] = []
lines_of (byte ∷ text) = if byte == 10 then [] ∷ lines_of text else onto_first byte (lines_of text)

-- the text of the lines, an LF after each
abbrev pub text_of_lines : List (List ℕ) → List ℕ
text_of_lines lines = flat_map (λ line. line ++ 10 ∷ []) lines

abbrev pub has_line_feed : List ℕ → Bool
has_line_feed text = list_any (λ byte. byte == 10) text

-- lines that are written are read back
abbrev pub LinesAreReadBack : Type 0
LinesAreReadBack = (lines : List (List ℕ)) → list_any has_line_feed lines ≡ false → lines_of (text_of_lines lines) ≡ lines
