-- A line and the CR at its end.
use Rattle.std.specs.Prelude.{◌≡◌, ◌⊎◌, ℕ, List, [], ◌∷◌, ◌++◌}

-- the line is `front` and a CR, or it is `front` and doesn't end in a CR
abbrev pub WithoutReturn : List ℕ → List ℕ → Type 0
WithoutReturn line front = (line ≡ front ++ 13 ∷ []) ⊎ ((front ≡ line) × ((start : List ℕ) → line ≡ start ++ 13 ∷ [] → ⊥))
