-- What an input of `words` says, or its first malformed line.
use Rattle.std.specs.Prelude.{◌≡◌, ℕ, ◌+◌, ◌≤◌, ⊤, IsTrue, false, nat_lt, if◌then◌else◌, Option, Some, None, option_and_then, Result, Ok, Err, List, [], ◌∷◌, length, drop, slice_get}
use Rattle.rv_memory.specs.Chain.{◌>>=◌}
use Rattle.rv_text.specs.Hexadecimal.{word_of}
use Rattle.rv_text.specs.Lines.{lines_of}
use Rattle.rv_words.specs.HartsLine.{harts_of}
use Rattle.rv_words.specs.StepsLine.{steps_of}
use Rattle.rv_hart.specs.declared.machine.TheConstants.{MOST_HARTS}
use Rattle.rv_words.specs.declared.input.TheConstants.{MOST_STEPS, MOST_WORDS}
use Rattle.rv_words.specs.declared.fault.WordsFault.{WordsFault}
use Rattle.rv_words.specs.declared.fault.WordsFault.TheVariants.{Line, Step, NoMemory}

-- what an input says: how many harts there are, the hart of each step, the instruction words
pub record WordsInput : Type 0 where
  pub harts : ℕ
  pub steps : List ℕ
  pub words : List ℕ

-- an input within the limits
pub record IsInLimits (input : WordsInput) : Type 0 where
  pub some_hart : 1 ≤ input.harts
  pub harts : input.harts ≤ MOST_HARTS
  pub steps : length input.steps ≤ MOST_STEPS
  pub words : length input.words ≤ MOST_WORDS

-- what the line of that number says, from 1 on; where it is malformed or missing, its number is told
abbrev pub told_at : {A : Type 0} → ℕ → Option A → Result A ℕ
told_at number None = Err number
told_at number (Some a) = Ok a

-- the words of the lines, the first of which is the line of that number; the line of a word too many
-- is malformed
abbrev pub words_from : ℕ → List (List ℕ) → Result (List ℕ) ℕ
words_from number [] = Ok []
words_from number (line ∷ lines) = do
  word ← told_at number (if nat_lt number (3 + MOST_WORDS) then word_of line else None)
  words ← words_from (number + 1) lines
  Ok (word ∷ words)

-- what a text says, or the number of its first malformed line
unfoldable pub input_of : List ℕ → Result WordsInput ℕ
input_of text = do
  harts ← told_at 1 (option_and_then harts_of (slice_get (lines_of text) 0))
  steps ← told_at 2 (option_and_then steps_of (slice_get (lines_of text) 1))
  words ← words_from 3 (drop 2 (lines_of text))
  Ok (record { harts = harts; steps = steps; words = words })

-- the fault is the line that is told; no step is made yet, and that memory is out says nothing of the text
abbrev pub IsFaultOf : {A : Type 0} → Result A ℕ → WordsFault → Type 0
IsFaultOf said (Line number) = said ≡ Err number
IsFaultOf said (Step number fault) = IsTrue false
IsFaultOf said NoMemory = ⊤
