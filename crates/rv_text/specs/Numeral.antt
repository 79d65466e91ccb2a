-- Numbers in a radix, as a source writes them.
use Rattle.std.specs.Prelude.{ℕ, Bool, ◌&&◌, nat_lt, nat_le, if◌then◌else◌, Option, Some, None, List, length}
use Rattle.std.specs.List.{list_all}
use Rattle.std.specs.Char.{is_digit}
use Rattle.std.specs.Str.Parse.{digits_value}

-- one digit of the radix or more, letters in either case, and nothing else
abbrev pub is_numeral : ℕ → List ℕ → Bool
is_numeral radix text = nat_lt 0 (length text) && list_all (λ c. is_digit c radix) text

-- the number that such a text writes, the most significant digit first
unfoldable pub number_of : ℕ → List ℕ → Option ℕ
number_of radix text = if is_numeral radix text then Some (digits_value radix text) else None

-- the number, if it is at most the limit
abbrev pub up_to : ℕ → Option ℕ → Option ℕ
up_to limit None = None
up_to limit (Some n) = if nat_le n limit then Some n else None
