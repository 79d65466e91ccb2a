-- How a message shows a path or an argument, so that it cannot steer a terminal.
use Rattle.std.specs.Prelude.{ℕ, ◌/◌, ◌%◌, Bool, false, ◌==◌, ◌||◌, nat_lt, if◌then◌else◌, List, [], ◌∷◌, ◌++◌, codes}
use Rattle.std.specs.Fmt.{radix_digits}
use Rattle.std.specs.List.{flat_map}

-- a control character, or a byte of a character that is not ASCII
abbrev pub is_hidden : ℕ → Bool
is_hidden byte = nat_lt byte 32 || nat_lt 126 byte

-- Such a byte is `\x` and its two hexadecimal digits, and a backslash `\\`. All others stay, a blank too.
abbrev pub shown_byte : ℕ → List ℕ
shown_byte byte =
    if is_hidden byte then codes "\\x" ++ (radix_digits 16 false (byte / 16) ++ radix_digits 16 false (byte % 16))
    else (if byte == 92 then codes "\\\\" else byte ∷ [])

abbrev pub shown : List ℕ → List ℕ
shown text = flat_map shown_byte text
