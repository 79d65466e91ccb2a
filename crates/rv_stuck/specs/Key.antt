-- What harts do, as a list of words.
use Rattle.std.specs.Prelude.{ℕ, List, [], ◌∷◌}
use Rattle.std.specs.List.{flat_map}
use Rattle.rv_stuck.specs.Acts.{Conduct, HasExited, HasStopped, IsParked, PollsAt}
use Rattle.rv_waits.specs.declared.touched.Range.{Range}

-- a word that says that a range follows: no hart's begins with it
abbrev pub words_of_range : Range → List ℕ
words_of_range range = 4 ∷ range.first ∷ range.size ∷ []

-- a word for what the hart does, and of one that polls its address and each range
abbrev pub words_of : Conduct → List ℕ
words_of HasExited = 0 ∷ []
words_of HasStopped = 1 ∷ []
words_of IsParked = 2 ∷ []
words_of (PollsAt pc ranges) = 3 ∷ pc ∷ flat_map words_of_range ranges

-- of one hart after another
abbrev pub key : List Conduct → List ℕ
key harts = flat_map words_of harts
