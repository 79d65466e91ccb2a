-- Decimal numbers: how one is written, and which texts are one.
use Rattle.std.specs.Prelude.{◌≡◌, ℕ, ◌^◌, ◌<◌, Bool, ◌==◌, ◌&&◌, nat_lt, if◌then◌else◌, Option, Some, None, List, length, slice_index}
use Rattle.std.specs.Fmt.{decimal}
use Rattle.rv_text.specs.Numeral.{number_of}
use Rattle.rv_text.specs.Pieces.{Lacks}

-- a zero with more digits after it
abbrev pub has_leading_zero : List ℕ → Bool
has_leading_zero text = slice_index text 0 == 48 && nat_lt 1 (length text)

-- the number that a text writes in decimal digits without a leading zero; 0 itself is one digit
unfoldable pub decimal_of : List ℕ → Option ℕ
decimal_of text = if has_leading_zero text then None else number_of 10 text

-- a written number is read back
abbrev pub DecimalIsReadBack : Type 0
DecimalIsReadBack = (n : ℕ) → n < 2 ^ 64 → decimal_of (decimal n) ≡ Some n

-- a number has one spelling
abbrev pub DecimalHasOneSpelling : Type 0
DecimalHasOneSpelling = (text : List ℕ) (n : ℕ) → decimal_of text ≡ Some n → n < 2 ^ 64 → text ≡ decimal n

-- in the digits of a number stands no byte below the digit 0 (48), as a blank, a comma or an LF is
abbrev pub DecimalLacksSeparators : Type 0
DecimalLacksSeparators = (byte : ℕ) → byte < 48 → (text : List ℕ) (n : ℕ) → decimal_of text ≡ Some n → Lacks byte text
