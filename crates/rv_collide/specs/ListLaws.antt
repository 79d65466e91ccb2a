-- The open pauses of a list that is one entry longer.
use Rattle.std.specs.Prelude.{◌≡◌, ℕ, ◌==◌, false, not, List, [], ◌∷◌, ◌++◌, length, filter}
use Rattle.rv_collide.specs.Pause.{Opening, opened, openings, resumes}
use Rattle.rv_collide.specs.declared.entry.Entry.{Entry}
use Rattle.rv_collide.specs.declared.entry.Entry.TheVariants.{Resumed}

-- An entry that is no resumption ends no pause: those that were open stay so, and a pause is one more.
abbrev pub OthersStayOpen : Type 0
OthersStayOpen =
    (entries : List Entry) (entry : Entry) → ((hart : ℕ) → resumes hart entry ≡ false) → openings (entries ++ entry ∷ []) ≡ openings entries ++ opened (length entries) entry []

-- A resumption ends just the pause of its hart.
abbrev pub ResumptionEndsOne : Type 0
ResumptionEndsOne =
    (entries : List Entry) (hart : ℕ) → openings (entries ++ Resumed hart ∷ []) ≡ filter (λ (opening : Opening). not (opening.hart == hart)) (openings entries)
