-- How a name from a file is shown to people.
use Rattle.std.specs.Prelude.{ℕ, Bool, ◌==◌, ◌||◌, nat_le, nat_lt, if◌then◌else◌, List, [], ◌∷◌, ◌++◌, codes}
use Rattle.std.specs.List.{flat_map}
use Rattle.rv_text.specs.Hexadecimal.{byte_digits}

-- a blank, a control character, or a byte of a character that is not ASCII
abbrev pub is_hidden : ℕ → Bool
is_hidden byte = nat_le byte 32 || nat_lt 126 byte

-- A name from a file must not steer a terminal: such a byte is `\x` and its two digits, a backslash `\\`.
abbrev pub escaped_byte : ℕ → List ℕ
escaped_byte byte = if is_hidden byte then codes "\\x" ++ byte_digits byte else (if byte == 92 then 92 ∷ 92 ∷ [] else byte ∷ [])

abbrev pub escaped : List ℕ → List ℕ
escaped name = flat_map escaped_byte name

-- A field of a file of source lines, in which a backslash and each control character are escaped already.
abbrev pub field_byte : ℕ → List ℕ
field_byte byte = if is_hidden byte then codes "\\x" ++ byte_digits byte else byte ∷ []

abbrev pub escaped_field : List ℕ → List ℕ
escaped_field field = flat_map field_byte field
