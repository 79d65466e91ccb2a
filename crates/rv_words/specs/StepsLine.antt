-- The second line of an input of `words`: the hart of each step.
use Rattle.std.specs.Prelude.{ℕ, ◌==◌, nat_le, if◌then◌else◌, Option, Some, None, option_and_then, option_map, List, [], ◌∷◌, length, codes}
use Rattle.rv_text.specs.Numeral.{up_to}
use Rattle.rv_text.specs.Decimal.{decimal_of}
use Rattle.rv_text.specs.Pieces.{pieces_of}
use Rattle.rv_words.specs.Prefix.{after}
use Rattle.rv_words.specs.declared.input.TheConstants.{MOST_STEP, MOST_STEPS}

-- the numbers that the texts write, 0 to `MOST_STEP`, if each writes one
abbrev pub numbers_of : List (List ℕ) → Option (List ℕ)
numbers_of [] = Some []
numbers_of (text ∷ texts) =
    option_and_then (λ number. option_map (λ numbers. number ∷ numbers) (numbers_of texts)) (up_to MOST_STEP (decimal_of text))

-- the steps, unless they are too many
abbrev pub unless_many : List ℕ → Option (List ℕ)
unless_many steps = if nat_le (length steps) MOST_STEPS then Some steps else None

-- the numbers of a text in which one blank stands between two of them
abbrev pub step_list_of : List ℕ → Option (List ℕ)
step_list_of text = option_and_then unless_many (numbers_of (pieces_of 32 text))

-- nothing, or a blank before the numbers
abbrev pub steps_after : List ℕ → Option (List ℕ)
steps_after [] = Some []
steps_after (byte ∷ text) = if byte == 32 then step_list_of text else None

-- the numbers of the line `steps`, each with a blank before it
unfoldable pub steps_of : List ℕ → Option (List ℕ)
steps_of line = option_and_then steps_after (after (codes "steps") line)
