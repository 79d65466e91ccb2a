-- The bytes of a line of source, and how it is cut at them.
use Rattle.std.specs.Prelude.{ℕ, Bool, true, false, not, ◌==◌, ◌&&◌, ◌||◌, nat_le, if◌then◌else◌, List, [], ◌∷◌, length}
use Rattle.std.specs.List.{list_all}
use Rattle.std.specs.Char.{is_ascii_alphabetic, is_ascii_digit}
use Rattle.rv_asm.specs.declared.reading.text.Stop.{Stop}
use Rattle.rv_asm.specs.declared.reading.text.Stop.TheVariants.{Comment, NameEnd, Blank, TokenEnd, Close, Filled}

-- The bytes of a line, and how it is cut at them.

-- space and tab
abbrev pub is_blank : ℕ → Bool
is_blank byte = byte == 32 || byte == 9

-- a letter, `_`, `.` or `$`
abbrev pub begins_name : ℕ → Bool
begins_name byte = is_ascii_alphabetic byte || byte == 95 || byte == 46 || byte == 36

abbrev pub is_name_byte : ℕ → Bool
is_name_byte byte = begins_name byte || is_ascii_digit byte

-- at most 255 bytes
abbrev pub is_name : List ℕ → Bool
is_name [] = false
is_name (byte ∷ bytes) = begins_name byte && list_all is_name_byte bytes && nat_le (length bytes) 254

-- where a part of a line ends: at `#`, at a byte that no name has, at a blank, at a blank or `(`, at `)`,
-- and at what is no blank
abbrev pub is_stop : Stop → ℕ → Bool
is_stop Comment byte = byte == 35
is_stop NameEnd byte = not (is_name_byte byte)
is_stop Blank byte = is_blank byte
is_stop TokenEnd byte = is_blank byte || byte == 40
is_stop Close byte = byte == 41
is_stop Filled byte = not (is_blank byte)

-- what stands before the first stop
abbrev pub before : Stop → List ℕ → List ℕ
before stop [] = []
before stop (byte ∷ text) = if is_stop stop byte then [] else byte ∷ before stop text

-- the first stop and what follows it
abbrev pub since : Stop → List ℕ → List ℕ
since stop [] = []
since stop (byte ∷ text) = if is_stop stop byte then byte ∷ text else since stop text

abbrev pub is_empty : List ℕ → Bool
is_empty [] = true
is_empty (byte ∷ text) = false
