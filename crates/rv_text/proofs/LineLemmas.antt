use Rattle.std.proofs.Common.{◌≡◌, ℕ, ◌<◌, ◌==◌, true, false, List, [], ◌∷◌, ◌++◌, All, length, append_assoc, refl, ap, ◌∙◌, arith}
use Rattle.std.specs.List.{onto_first, list_any}
use Rattle.std.proofs.lemmas.Bool.{or_parts}
use Rattle.std.proofs.lemmas.Bool.Decides.{nat_tests}
use Rattle.std.proofs.lemmas.List.Elements.{All-head, All-tail}
use Rattle.std.proofs.lemmas.List.Splits.{slice_split_at, slice_split_none}
use Rattle.rv_text.specs.Lines.{lines_of, text_of_lines, has_line_feed, LinesAreReadBack}
use Rattle.rv_text.specs.Pieces.{pieces_of}

-- each byte of the text is another one
abbrev pub AreOthers : ℕ → List ℕ → Type 0
AreOthers byte text = All (λ b. (b == byte) ≡ false) text

onward : (b : ℕ) (text : List ℕ) → (b == 10) ≡ false → lines_of (b ∷ text) ≡ onto_first b (lines_of text)
onward b text other = rw other refl

-- the first line ends at the first LF
pub lines_of-cut : (text line rest : List ℕ) → AreOthers 10 line → text ≡ line ++ 10 ∷ rest → lines_of text ≡ line ∷ lines_of rest
lines_of-cut text line rest lacks is = ap lines_of is ∙ at_lf line rest lacks where
  at_lf : (line rest : List ℕ) → AreOthers 10 line → lines_of (line ++ 10 ∷ rest) ≡ line ∷ lines_of rest
  at_lf [] rest lacks = refl
  at_lf (b ∷ line) rest lacks = onward b (line ++ 10 ∷ rest) (All-head (λ b. (b == 10) ≡ false) b line lacks) ∙ ap (onto_first b) (at_lf line rest (All-tail (λ b. (b == 10) ≡ false) b line lacks))

-- a last line that lacks its LF
pub lines_of-last : (text : List ℕ) → 0 < length text → AreOthers 10 text → lines_of text ≡ text ∷ []
lines_of-last [] some lacks = absurd (omega arith)
lines_of-last (b ∷ []) some lacks = onward b [] (All-head (λ b. (b == 10) ≡ false) b [] lacks)
lines_of-last (b ∷ c ∷ text) some lacks = onward b (c ∷ text) (All-head (λ b. (b == 10) ≡ false) b (c ∷ text) lacks) ∙ ap (onto_first b) (lines_of-last (c ∷ text) (omega arith) (All-tail (λ b. (b == 10) ≡ false) b (c ∷ text) lacks))

pub pieces_of-cut : (separator : ℕ) (text piece rest : List ℕ) → AreOthers separator piece → text ≡ piece ++ separator ∷ rest → pieces_of separator text ≡ piece ∷ pieces_of separator rest
pieces_of-cut separator text piece rest lacks is =
    let self : (separator == separator) ≡ true = grind (arith, nat_tests) in
    ap (pieces_of separator) is ∙ slice_split_at (λ b. b == separator) piece separator rest lacks self

pub pieces_of-last : (separator : ℕ) (text : List ℕ) → AreOthers separator text → pieces_of separator text ≡ text ∷ []
pieces_of-last separator text lacks = slice_split_none (λ b. b == separator) text lacks

line_then : (line rest : List ℕ) → has_line_feed line ≡ false → lines_of (line ++ 10 ∷ rest) ≡ line ∷ lines_of rest
line_then [] rest lacks = refl
line_then (b ∷ line) rest lacks =
    let parts = or_parts (b == 10) (has_line_feed line) lacks in
    onward b (line ++ 10 ∷ rest) parts.0 ∙ ap (onto_first b) (line_then line rest parts.1)

pub read_back : LinesAreReadBack
read_back [] lacks = refl
read_back (line ∷ lines) lacks =
    let parts = or_parts (has_line_feed line) (list_any has_line_feed lines) lacks in
    ap lines_of (append_assoc line (10 ∷ []) (text_of_lines lines)) ∙ line_then line (text_of_lines lines) parts.0 ∙ ap (λ rest. line ∷ rest) (read_back lines parts.1)
