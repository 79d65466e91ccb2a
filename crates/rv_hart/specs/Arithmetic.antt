-- Arithmetic on words of 32 bits: sums modulo 2 ^ 32, shifts, comparisons, products and quotients.
use Rattle.std.specs.Prelude.{ℕ, ℤ, pos, ◌+◌, ◌-◌, ◌*◌, ◌/◌, ◌%◌, ◌^◌, Bool, ◌==◌, unsigned_abs, nat_lt, int_lt, if◌then◌else◌, bit_and, bit_or, bit_xor, min, max}
use Rattle.std.specs.Int.{cast_signed, cast_unsigned, int_shr, int_div_euclid, int_rem_euclid, int_min, int_max, w32}
use Rattle.std.specs.Int.RustNames.{int_div, int_rem}
use Rattle.rv_hart.specs.declared.action.Combine.{Combine}
use Rattle.rv_hart.specs.declared.action.Combine.TheVariants.{Swap, Add, Xor, And, Or, Min, Max, MinUnsigned, MaxUnsigned}

-- Words of 32 bits: sums are modulo 2 ^ 32.
abbrev pub plus : ℕ → ℕ → ℕ
plus a b = (a + b) % 2 ^ 32

abbrev pub minus : ℕ → ℕ → ℕ
minus a b = (a + (2 ^ 32 - b)) % 2 ^ 32

-- the integer that a word stands for in two's complement, and the word that stands for an integer
abbrev pub integer : ℕ → ℤ
integer = cast_signed w32

abbrev pub word : ℤ → ℕ
word = cast_unsigned w32

abbrev pub flag : Bool → ℕ
flag b = if b then 1 else 0

abbrev pub less_signed : ℕ → ℕ → Bool
less_signed a b = int_lt (integer a) (integer b)

-- shifts, by 0 to 31
abbrev pub shift_left : ℕ → ℕ → ℕ
shift_left a amount = a * 2 ^ amount % 2 ^ 32

abbrev pub shift_right : ℕ → ℕ → ℕ
shift_right a amount = a / 2 ^ amount

abbrev pub shift_right_signed : ℕ → ℕ → ℕ
shift_right_signed a amount = word (int_shr (integer a) amount)

-- the low 32 bits of an integer in two's complement, and the 32 bits above them
abbrev pub low_half : ℤ → ℕ
low_half z = unsigned_abs (int_rem_euclid z (pos (2 ^ 32)))

abbrev pub high_half : ℤ → ℕ
high_half z = low_half (int_div_euclid z (pos (2 ^ 32)))

-- Quotients are rounded towards zero, and a remainder has the sign of the dividend a. By zero the quotient is all
-- ones and the remainder is the dividend. The least number by -1 has the quotient 2 ^ 31, whose word is that of the
-- least number. (RISC-V Unprivileged ISA, "Division Operations".)
abbrev pub quotient : ℕ → ℕ → ℕ
quotient a b = if b == 0 then 2 ^ 32 - 1 else a / b

abbrev pub quotient_signed : ℕ → ℕ → ℕ
quotient_signed a b = if b == 0 then 2 ^ 32 - 1 else word (int_div (integer a) (integer b))

abbrev pub remainder : ℕ → ℕ → ℕ
remainder a b = if b == 0 then a else a % b

abbrev pub remainder_signed : ℕ → ℕ → ℕ
remainder_signed a b = if b == 0 then a else word (int_rem (integer a) (integer b))

-- `size` bytes, as loaded, extended to a word
abbrev pub extended : Bool → ℕ → ℕ → ℕ
extended signed size bits =
    if signed then (if nat_lt bits (2 ^ (8 * size - 1)) then bits else bits + (2 ^ 32 - 2 ^ (8 * size))) else bits

-- what an AMO stores. (RISC-V Unprivileged ISA, "Atomic Memory Operations".)
abbrev pub combined : Combine → ℕ → ℕ → ℕ
combined Swap loaded value = value
combined Add loaded value = plus loaded value
combined Xor loaded value = bit_xor loaded value
combined And loaded value = bit_and loaded value
combined Or loaded value = bit_or loaded value
combined Min loaded value = word (int_min (integer loaded) (integer value))
combined Max loaded value = word (int_max (integer loaded) (integer value))
combined MinUnsigned loaded value = min loaded value
combined MaxUnsigned loaded value = max loaded value
