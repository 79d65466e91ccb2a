-- The steps of an input of `words` are the run of their harts.
use Rattle.std.specs.Prelude.{◌≡◌, ℕ, ◌↔◌, Ok, Some, List}
use Rattle.rv_hart.specs.Run.{run}
use Rattle.rv_hart.specs.State.{State}
use Rattle.rv_words.specs.WordsGuest.{stepped}

-- the steps of an input, where none is refused, are the run of their harts
abbrev pub StepsAreTheRun : Type 0
StepsAreTheRun = (s t : State) (number : ℕ) (steps : List ℕ) → (stepped number s steps ≡ Ok t) ↔ (run s steps ≡ Some t)
