use Rattle.std.proofs.Common.{◌≡◌, ℕ, ◌<◌, ◌≤◌, Bool, true, false, ◌&&◌, ◌==◌, nat_lt, Some, None, List, [], ◌∷◌, ◌++◌, length, refl, ap, arith, cond}
use Rattle.std.specs.List.{list_all, list_any, onto_first}
use Rattle.std.specs.Char.{is_digit}
use Rattle.std.specs.Str.Parse.{digits_value}
use Rattle.std.proofs.lemmas.Bool.{and_parts, or_from, or_parts}
use Rattle.std.proofs.lemmas.Bool.Decides.{nat_tests}
use Rattle.rv_text.specs.Numeral.{number_of}
use Rattle.rv_text.specs.Decimal.{decimal_of, has_leading_zero, DecimalLacksSeparators}
use Rattle.rv_text.specs.Hexadecimal.{word_of, WordLacksSeparators}
use Rattle.rv_text.specs.Pieces.{pieces_of, Lacks, PiecesAreCut}

-- digits have no byte below the digit 0
digits_lack : (byte radix : ℕ) → byte < 48 → radix ≤ 36 → (text : List ℕ) → list_all (λ c. is_digit c radix) text ≡ true → Lacks byte text
digits_lack byte radix low most [] all = refl
digits_lack byte radix low most (c ∷ text) all =
    let parts = and_parts (is_digit c radix) (list_all (λ c. is_digit c radix) text) all in
    let digit : is_digit c radix ≡ true = parts.0 in
    let other : (c == byte) ≡ false = grind (arith, nat_tests) in
    or_from (c == byte) (list_any (λ b. b == byte) text) other (digits_lack byte radix low most text parts.1)

number_lacks : (byte radix : ℕ) → byte < 48 → radix ≤ 36 → (text : List ℕ) (n : ℕ) → number_of radix text ≡ Some n → Lacks byte text
unfolding number_of
number_lacks byte radix low most text n reads = by_test (nat_lt 0 (length text)) (list_all (λ c. is_digit c radix) text) refl reads where
  by_test : (some all : Bool) → list_all (λ c. is_digit c radix) text ≡ all → cond (some && all) (Some (digits_value radix text)) None ≡ Some n → Lacks byte text
  by_test true true all reads = digits_lack byte radix low most text all
  by_test true false all reads = cc
  by_test false all' all reads = cc

pub word_lacks : WordLacksSeparators
unfolding word_of
word_lacks byte low text n reads = by_test (length text == 8) reads where
  by_test : (eight : Bool) → cond eight (number_of 16 text) None ≡ Some n → Lacks byte text
  by_test true reads = number_lacks byte 16 low (omega arith) text n reads
  by_test false reads = cc

pub decimal_lacks : DecimalLacksSeparators
unfolding decimal_of
decimal_lacks byte low text n reads = by_test (has_leading_zero text) reads where
  by_test : (zero : Bool) → cond zero None (number_of 10 text) ≡ Some n → Lacks byte text
  by_test false reads = number_lacks byte 10 low (omega arith) text n reads
  by_test true reads = cc

at_separator : (separator : ℕ) (piece rest : List ℕ) → Lacks separator piece → pieces_of separator (piece ++ separator ∷ rest) ≡ piece ∷ pieces_of separator rest
at_separator separator [] rest lacks =
    let self : (separator == separator) ≡ true = grind (arith, nat_tests) in
    rw self refl
at_separator separator (b ∷ piece) rest lacks =
    let parts = or_parts (b == separator) (list_any (λ b. b == separator) piece) lacks in
    rw parts.0 (ap (onto_first b) (at_separator separator piece rest parts.1))

one_piece : (separator : ℕ) (piece : List ℕ) → Lacks separator piece → pieces_of separator piece ≡ piece ∷ []
one_piece separator [] lacks = refl
one_piece separator (b ∷ piece) lacks =
    let parts = or_parts (b == separator) (list_any (λ b. b == separator) piece) lacks in
    rw parts.0 (ap (onto_first b) (one_piece separator piece parts.1))

pub pieces_are_cut : PiecesAreCut
pieces_are_cut separator piece rest lacks = (at_separator separator piece rest lacks, one_piece separator piece lacks)
