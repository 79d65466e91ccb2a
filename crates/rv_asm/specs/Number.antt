-- The numbers of a source, decimal and hexadecimal.
use Rattle.std.specs.Prelude.{ℕ, ℤ, pos, ◌^◌, ◌-◌, ◌==◌, ◌&&◌, nat_le, neg_ℤ, if◌then◌else◌, Option, Some, None, option_map, List, ◌∷◌, drop, slice_index}
use Rattle.rv_text.specs.Numeral.{number_of}

-- A number: an optional `-`, then decimal digits, or `0x` and hexadecimal digits in either case.

-- the number that a text without a sign writes
abbrev pub magnitude : List ℕ → Option ℕ
magnitude (byte ∷ next ∷ rest) = if byte == 48 && next == 120 then number_of 16 rest else number_of 10 (byte ∷ next ∷ rest)
magnitude text = number_of 10 text

-- the number of this magnitude, where it is not below -2^31 and not above 2^32 - 1
abbrev pub negative : ℕ → Option ℤ
negative n = if nat_le n (2 ^ 31) then Some (neg_ℤ (pos n)) else None

abbrev pub positive : ℕ → Option ℤ
positive n = if nat_le n (2 ^ 32 - 1) then Some (pos n) else None

-- The number that a text writes. It is None within where it is out of range.
abbrev pub number : List ℕ → Option (Option ℤ)
number text = if slice_index text 0 == 45 then option_map negative (magnitude (drop 1 text)) else option_map positive (magnitude text)
