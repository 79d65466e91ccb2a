-- The text that an input of `words` is written as.
use Rattle.std.specs.Prelude.{◌≡◌, ℕ, ◌^◌, ◌≤◌, ◌<◌, All, Ok, List, ◌∷◌, ◌++◌, map, codes}
use Rattle.std.specs.List.{flat_map}
use Rattle.std.specs.Fmt.{decimal}
use Rattle.rv_text.specs.Hexadecimal.{word_digits}
use Rattle.rv_text.specs.Lines.{text_of_lines}
use Rattle.rv_words.specs.WordsInput.{WordsInput, IsInLimits, input_of}
use Rattle.rv_words.specs.declared.input.TheConstants.{MOST_STEP}

-- the text that an input is written as: `harts N`, `steps` with a blank and a number for each step, and
-- eight digits for each word, an LF after each line
unfoldable pub text_of : WordsInput → List ℕ
text_of input = text_of_lines ((codes "harts " ++ decimal input.harts)
    ∷ (codes "steps" ++ flat_map (λ step. 32 ∷ decimal step) input.steps)
    ∷ map word_digits input.words)

-- what can be written
pub record IsWritable (input : WordsInput) : Type 0 where
  pub limits : IsInLimits input
  pub steps : All (λ step. step ≤ MOST_STEP) input.steps
  pub words : All (λ word. word < 2 ^ 32) input.words

-- an input that is written is read back
abbrev pub InputIsReadBack : Type 0
InputIsReadBack = (input : WordsInput) → IsWritable input → input_of (text_of input) ≡ Ok input
