-- Lists that were made before the workers start.
use Rattle.std.specs.Prelude.{ℕ, ◌≤◌, List, [], ◌∷◌, Vec, vec_capacity}
use Rattle.std.specs.declared.alloc.Global.{Global}

-- each list has room for so many
abbrev pub HaveRoom : ℕ → List (Vec ℕ Global) → Type 0
HaveRoom count [] = Unit {0}
HaveRoom count (list ∷ lists) = (count ≤ vec_capacity list) × HaveRoom count lists
