use Rattle.std.specs.Prelude.{ℕ, Option, Some, None, List, []}
use Rattle.rv_text.specs.Pieces.{pieces_of}

-- the pieces that are left, where none are once the last was taken
abbrev pub pieces_left : ℕ → Option (List ℕ) → List (List ℕ)
pieces_left separator None = []
pieces_left separator (Some text) = pieces_of separator text
