-- The commands that a user gives by GDB's `monitor`.
use Rattle.std.specs.Prelude.{ℕ, ◌-◌, ◌^◌, if◌then◌else◌, Option, Some, None, option_map, List, [], ◌∷◌, codes}
use Rattle.std.specs.Str.{bytes_eq}
use Rattle.rv_text.specs.Decimal.{decimal_of}
use Rattle.rv_text.specs.Numeral.{up_to}
use Rattle.rv_text.specs.Pieces.{pieces_of}
use Rattle.rv_gdb.specs.declared.monitor.Order.{Order}
use Rattle.rv_gdb.specs.declared.monitor.Order.TheVariants.{Entry, Ending, Hit, Where, Help}

-- a number in decimal digits
abbrev pub decimal_in : List ℕ → Option ℕ
decimal_in word = up_to (2 ^ 32 - 1) (decimal_of word)

abbrev pub plain_order : List ℕ → Option Order
plain_order name =
    if bytes_eq name (codes "where") then Some Where else if bytes_eq name (codes "help") then Some Help else None

abbrev pub numbered_order : List ℕ → List ℕ → Option Order
numbered_order name word =
    if bytes_eq name (codes "entry") then option_map Entry (decimal_in word)
    else if bytes_eq name (codes "ending") then option_map Ending (decimal_in word)
    else if bytes_eq name (codes "hit") then option_map Hit (decimal_in word)
    else None

abbrev pub order_of : List (List ℕ) → Option Order
order_of [] = None
order_of (name ∷ []) = plain_order name
order_of (name ∷ word ∷ []) = numbered_order name word
order_of (name ∷ word ∷ other ∷ words) = None

-- The command that a text says, with one blank (32) between two of its words. None where there is none.
unfoldable pub order_in : List ℕ → Option Order
order_in text = order_of (pieces_of 32 text)
