-- The first line of an input of `words`: the number of harts.
use Rattle.std.specs.Prelude.{ℕ, ◌==◌, if◌then◌else◌, Option, Some, None, option_and_then, List, codes}
use Rattle.rv_text.specs.Numeral.{up_to}
use Rattle.rv_text.specs.Decimal.{decimal_of}
use Rattle.rv_words.specs.Prefix.{after}
use Rattle.rv_hart.specs.declared.machine.TheConstants.{MOST_HARTS}

abbrev pub unless_none : ℕ → Option ℕ
unless_none harts = if harts == 0 then None else Some harts

-- the number of harts that a text writes, 1 to `MOST_HARTS`
abbrev pub harts_in : List ℕ → Option ℕ
harts_in number = option_and_then unless_none (up_to MOST_HARTS (decimal_of number))

-- how many harts the line `harts N` says
unfoldable pub harts_of : List ℕ → Option ℕ
harts_of line = option_and_then harts_in (after (codes "harts ") line)
