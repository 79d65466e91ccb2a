-- Hexadecimal digits of words and bytes.
use Rattle.std.specs.Prelude.{◌≡◌, ℕ, ◌/◌, ◌%◌, ◌^◌, ◌<◌, Bool, false, ◌==◌, if◌then◌else◌, Option, Some, None, List, [], ◌∷◌, ◌++◌, length, zero, suc}
use Rattle.std.specs.List.{list_any}
use Rattle.std.specs.Char.{digit_char, is_ascii_uppercase}
use Rattle.rv_text.specs.Numeral.{number_of}
use Rattle.rv_text.specs.Pieces.{Lacks}

-- the last `places` digits of a number in base 16, in lower case, the most significant first
abbrev pub hex_digits : ℕ → ℕ → List ℕ
hex_digits zero n = []
hex_digits (suc places) n = hex_digits places (n / 16) ++ digit_char (n % 16) ∷ []

-- a word of 32 bits in eight digits
unfoldable pub word_digits : ℕ → List ℕ
word_digits n = hex_digits 8 n

-- a byte in two digits
unfoldable pub byte_digits : ℕ → List ℕ
byte_digits n = hex_digits 2 n

-- the word that a text writes: eight digits in either case, and nothing else
unfoldable pub word_of : List ℕ → Option ℕ
word_of text = if length text == 8 then number_of 16 text else None

abbrev pub has_uppercase : List ℕ → Bool
has_uppercase text = list_any is_ascii_uppercase text

-- a written word is read back
abbrev pub WordIsReadBack : Type 0
WordIsReadBack = (n : ℕ) → n < 2 ^ 32 → word_of (word_digits n) ≡ Some n

-- but for the case of its letters a word has one spelling
abbrev pub WordHasOneSpelling : Type 0
WordHasOneSpelling = (text : List ℕ) (n : ℕ) → word_of text ≡ Some n → has_uppercase text ≡ false → text ≡ word_digits n

-- in the digits of a word stands no byte below the digit 0 (48), as a blank, a comma or an LF is
abbrev pub WordLacksSeparators : Type 0
WordLacksSeparators = (byte : ℕ) → byte < 48 → (text : List ℕ) (n : ℕ) → word_of text ≡ Some n → Lacks byte text
