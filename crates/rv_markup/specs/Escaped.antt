-- How a text stands in the page: as text, whatever its bytes are.
use Rattle.std.specs.Prelude.{ℕ, Bool, ◌==◌, ◌||◌, ◌&&◌, not, nat_lt, if◌then◌else◌, List, [], ◌∷◌, ◌++◌, codes}
use Rattle.std.specs.List.{flat_map}
use Rattle.rv_text.specs.Hexadecimal.{byte_digits}

-- a control character other than LF, or a byte that is not ASCII
abbrev pub is_hidden : ℕ → Bool
is_hidden byte = (nat_lt byte 32 && not (byte == 10)) || nat_lt 126 byte

-- A hidden byte is `\x` and its two digits, as in the names of symbols: the page is ASCII, and no text steers what shows it.
abbrev pub plain_byte : ℕ → List ℕ
plain_byte byte = if is_hidden byte then codes "\\x" ++ byte_digits byte else byte ∷ []

-- The five characters that HTML may read as markup are written as it writes them; all others stand as they are.
abbrev pub escaped_byte : ℕ → List ℕ
escaped_byte byte =
    if byte == 38 then codes "&amp;" else (if byte == 60 then codes "&lt;" else (if byte == 62 then codes "&gt;" else (if byte == 34 then codes "&quot;"
    else (if byte == 39 then codes "&#39;" else plain_byte byte))))

abbrev pub escaped : List ℕ → List ℕ
escaped text = flat_map escaped_byte text
