-- The pieces of a text that a separator stands between.
use Rattle.std.specs.Prelude.{◌≡◌, ℕ, false, ◌==◌, List, [], ◌∷◌, ◌++◌}
use Rattle.std.specs.List.{list_any, slice_split}

-- the pieces of a text that a separator stands between: one more than there are separators
abbrev pub pieces_of : ℕ → List ℕ → List (List ℕ)
pieces_of separator text = slice_split (λ byte. byte == separator) text

-- the byte stands nowhere in the text
abbrev pub Lacks : ℕ → List ℕ → Type 0
Lacks byte text = list_any (λ b. b == byte) text ≡ false

-- the first piece ends at the first separator, and a text without one is one piece
abbrev pub PiecesAreCut : Type 0
PiecesAreCut = (separator : ℕ) (piece rest : List ℕ) → Lacks separator piece → (pieces_of separator (piece ++ separator ∷ rest) ≡ piece ∷ pieces_of separator rest) × (pieces_of separator piece ≡ piece ∷ [])
