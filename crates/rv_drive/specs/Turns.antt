-- Turns in a row, whose harts the words pick while no pause is due.
use Rattle.std.specs.Prelude.{◌≡◌, ℕ, ◌+◌, ⊤, Some, None, Ok, List, [], ◌∷◌, ◌++◌, length}
use Rattle.rv_collide.specs.Forced.{Setting, Turn, forced}
use Rattle.rv_collide.specs.Stored.{Stored, setting_of}
use Rattle.rv_collide.specs.declared.entry.Entry.{Entry}
use Rattle.rv_drive.specs.Able.{due}
use Rattle.rv_drive.specs.Drawn.{picked_hart}

-- At the list's end no pause is due, and a turn of the hart that the word picks adds the entry.
pub record IsPickedTurn (setting : Setting) (entries : List Entry) (word : ℕ) (entry : Entry) : Type 0 where
  pub undue : due setting entries ≡ None
  pub hart : ℕ
  pub picked : picked_hart setting entries word ≡ Some hart
  pub turns : forced setting entries (Turn hart) ≡ Ok entry

-- turns one after another, by the words from an index on
abbrev pub ArePickedTurns : Setting → (ℕ → ℕ) → ℕ → List Entry → List Entry → Type 0
ArePickedTurns setting word_at index entries [] = ⊤
ArePickedTurns setting word_at index entries (turn ∷ turns) =
    IsPickedTurn setting entries (word_at index) turn × ArePickedTurns setting word_at (index + 1) (entries ++ turn ∷ []) turns

-- the core takes such turns, which use the words from one index on up to before another
pub record TakesTurns (old new : Stored) (word_at : ℕ → ℕ) (first next : ℕ) : Type 0 where
  pub turns : List Entry
  pub are_picked : ArePickedTurns (setting_of old) word_at first old.entries turns
  pub are_added : new ≡ record old { entries = old.entries ++ turns }
  pub next_is : next ≡ first + length turns
