use Rattle.std.proofs.Common.{◌≡◌, ℕ, ◌+◌, ◌≤◌, Option, Some, None, Result, Ok, Err, List, ◌++◌, length}
use Rattle.rv_words.specs.declared.input.TheConstants.{MOST_STEPS, MOST_WORDS}
use Rattle.rv_words.specs.StepsLine.{numbers_of}
use Rattle.rv_words.specs.WordsInput.{words_from}

-- numbers that were read before the others
abbrev pub numbers_before : List ℕ → Option (List ℕ) → Option (List ℕ)
numbers_before front None = None
numbers_before front (Some rest) = Some (front ++ rest)

-- the numbers of all pieces are those that were read and those of the pieces that are left
pub record NumbersSoFar (all left : List (List ℕ)) (steps : List ℕ) : Type 0 where
  pub whole : numbers_of all ≡ numbers_before steps (numbers_of left)
  pub few : length steps ≤ MOST_STEPS

-- words that were read before the others
abbrev pub words_before : List ℕ → Result (List ℕ) ℕ → Result (List ℕ) ℕ
words_before front (Err line) = Err line
words_before front (Ok rest) = Ok (front ++ rest)

-- the words of all lines are those that were read and those of the lines that are left
pub record WordsSoFar (all left : List (List ℕ)) (words : List ℕ) : Type 0 where
  pub whole : words_from 3 all ≡ words_before words (words_from (3 + length words) left)
  pub few : length words ≤ MOST_WORDS
