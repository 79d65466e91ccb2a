-- Numbers as a listing writes them, read back.
use Rattle.std.proofs.Common.{◌≡◌, ℕ, ℤ, pos, negsuc, suc, ◌-◌, ◌^◌, ◌<◌, Bool, true, false, List, [], ◌∷◌, Option, Some, None, length, refl, ap, ◌∙◌, lit≤, arith}
use Rattle.std.specs.Prelude.{◌==◌, ◌&&◌, nat_lt, nat_le, if◌then◌else◌, option_map, ◌≤ℤ◌}
use Rattle.std.specs.List.{list_all}
use Rattle.std.specs.Char.{is_digit, digit_value}
use Rattle.std.specs.Fmt.{decimal, radix_digits, signed_decimal}
use Rattle.std.specs.Str.Parse.{AllDigits, IsNumeral, digits_value}
use Rattle.std.proofs.lemmas.Bool.{and_parts, and_from}
use Rattle.std.proofs.lemmas.Bool.Decides.{nat_tests}
use Rattle.std.proofs.lemmas.Fmt.{decimal_is_IsNumeral, digits_is_IsNumeral}
use Rattle.std.proofs.lemmas.Int.{ints}
use Rattle.rv_text.specs.Hexadecimal.{word_digits, word_of, WordIsReadBack}
use Rattle.rv_text.specs.Numeral.{number_of}
use Rattle.rv_asm.specs.Number.{magnitude, negative, number, positive}
use Rattle.rv_asm.specs.Text.{begins_name, is_name}
use Rattle.rv_asm.proofs.PlainLemmas.{all_imply, is_plain}

-- a text of plain bytes that is read as a number, and as no name
pub record Reads (text : List ℕ) (z : ℤ) : Type 0 where
  pub some : 0 < length text
  pub plain : list_all is_plain text ≡ true
  pub no_name : is_name text ≡ false
  pub value : number text ≡ Some (Some z)

all_from_digits : (radix : ℕ) (text : List ℕ) → AllDigits radix text → list_all (λ c. is_digit c radix) text ≡ true
all_from_digits radix [] all = refl
all_from_digits radix (c ∷ cs) all =
    let small : digit_value c < radix = all.0 in
    let first : is_digit c radix ≡ true = grind (arith, nat_tests) in
    and_from _ _ first (all_from_digits radix cs all.1)

-- one digit or more, which write the number
pub record Writes (radix : ℕ) (text : List ℕ) (n : ℕ) : Type 0 where
  pub some : 0 < length text
  pub digits : list_all (λ c. is_digit c radix) text ≡ true
  pub number : number_of radix text ≡ Some n

pub numeral_writes : (radix : ℕ) (text : List ℕ) (n : ℕ) → IsNumeral radix text × (digits_value radix text ≡ n) → Writes radix text n
unfolding number_of
numeral_writes radix text n is =
    let some : 0 < length text = is.0.0 in
    let all = all_from_digits radix text is.0.1 in
    let value : digits_value radix text ≡ n = is.1 in
    record { some = some; digits = all; number = grind (arith, nat_tests) }

decimal_digit_plain : (c : ℕ) → is_digit c 10 ≡ true → is_plain c ≡ true
decimal_digit_plain c digit = grind (arith, nat_tests)

hexadecimal_digit_plain : (c : ℕ) → is_digit c 16 ≡ true → is_plain c ≡ true
hexadecimal_digit_plain c digit = grind (arith, nat_tests)

digit_begins_none : (c : ℕ) → is_digit c 10 ≡ true → begins_name c ≡ false
digit_begins_none c digit = grind (arith, nat_tests)

digit_no_minus : (c : ℕ) → is_digit c 10 ≡ true → (c == 45) ≡ false
digit_no_minus c digit = grind (arith, nat_tests)

digit_no_x : (c : ℕ) → is_digit c 10 ≡ true → (c == 120) ≡ false
digit_no_x c digit = grind (arith, nat_tests)

and_false : (b : Bool) → b && false ≡ false
and_false true = refl
and_false false = refl

decimal_magnitude : (text : List ℕ) → list_all (λ c. is_digit c 10) text ≡ true → magnitude text ≡ number_of 10 text
decimal_magnitude [] all = refl
decimal_magnitude (c ∷ []) all = refl
decimal_magnitude (c ∷ d ∷ rest) all =
    let first = and_parts (is_digit c 10) (list_all (λ c. is_digit c 10) (d ∷ rest)) all in
    let second = and_parts (is_digit d 10) (list_all (λ c. is_digit c 10) rest) first.1 in
    rw (digit_no_x d second.0, and_false (c == 48)) refl

positive_in : (n : ℕ) → n < 2 ^ 32 → positive n ≡ Some (pos n)
positive_in n small = let test : nat_le n (2 ^ 32 - 1) ≡ true = grind (arith, nat_tests) in rw test refl

negative_in : (n : ℕ) → n < 2 ^ 31 → negative (suc n) ≡ Some (negsuc n)
negative_in n small = let test : nat_le (suc n) (2 ^ 31) ≡ true = grind (arith, nat_tests) in rw test refl

decimal_reads : (text : List ℕ) (n : ℕ) → Writes 10 text n → n < 2 ^ 32 → Reads text (pos n)
decimal_reads [] n writes small = absurd (omega (arith, writes.some))
decimal_reads (c ∷ cs) n writes small =
    let digit = (and_parts (is_digit c 10) (list_all (λ c. is_digit c 10) cs) writes.digits).0 in
    record {
      some = omega arith;
      plain = all_imply (λ c. is_digit c 10) is_plain decimal_digit_plain (c ∷ cs) writes.digits;
      no_name = rw (digit_begins_none c digit) refl;
      value = rw (digit_no_minus c digit) (ap (λ m. option_map positive m) (decimal_magnitude (c ∷ cs) writes.digits ∙ writes.number) ∙ ap Some (positive_in n small));
    }

negative_reads : (text : List ℕ) (n : ℕ) → Writes 10 text (suc n) → n < 2 ^ 31 → Reads (45 ∷ text) (negsuc n)
negative_reads text n writes small =
    record {
      some = omega arith;
      plain = all_imply (λ c. is_digit c 10) is_plain decimal_digit_plain text writes.digits;
      no_name = refl;
      value = ap (λ m. option_map negative m) (decimal_magnitude text writes.digits ∙ writes.number) ∙ ap Some (negative_in n small);
    }

hexadecimal_reads : (text : List ℕ) (n : ℕ) → Writes 16 text n → n < 2 ^ 32 → Reads (48 ∷ 120 ∷ text) (pos n)
hexadecimal_reads text n writes small =
    record {
      some = omega arith;
      plain = all_imply (λ c. is_digit c 16) is_plain hexadecimal_digit_plain text writes.digits;
      no_name = refl;
      value = ap (λ m. option_map positive m) writes.number ∙ ap Some (positive_in n small);
    }

pub decimal_text : (n : ℕ) → n < 2 ^ 32 → Reads (decimal n) (pos n)
decimal_text n small = decimal_reads (decimal n) n (numeral_writes 10 (decimal n) n (decimal_is_IsNumeral n (omega arith))) small

pub signed_text : (z : ℤ) → negsuc 2147483647 ≤ℤ z → z ≤ℤ pos 2147483647 → Reads (signed_decimal z) z
signed_text (pos n) low high = decimal_text n (omega (arith, ints))
signed_text (negsuc n) low high =
    let small : n < 2 ^ 31 = omega (arith, ints) in
    negative_reads (decimal (suc n)) n (numeral_writes 10 (decimal (suc n)) (suc n) (decimal_is_IsNumeral (suc n) (omega arith))) small

below_all : (n : ℕ) → n < 2 ^ 32 → n < 16 ^ 64
below_all n small = omega arith

pub upper_text : (n : ℕ) → n < 2 ^ 32 → Reads (48 ∷ 120 ∷ radix_digits 16 false n) (pos n)
upper_text n small =
    hexadecimal_reads (radix_digits 16 false n) n (numeral_writes 16 (radix_digits 16 false n) n (digits_is_IsNumeral 16 false (lit≤ tt) (lit≤ tt) n (below_all n small))) small

if_first : {A : Type 0} (test : Bool) (o : Option A) (x : A) → (if test then o else None) ≡ Some x → o ≡ Some x
if_first true o x is = is
if_first false o x is = cc

if_test : {A : Type 0} (test : Bool) (o : Option A) (x : A) → (if test then o else None) ≡ Some x → test ≡ true
if_test true o x is = refl
if_test false o x is = cc

-- what is read as a number is digits
read_writes : (radix : ℕ) (text : List ℕ) (n : ℕ) → number_of radix text ≡ Some n → Writes radix text n
unfolding number_of
read_writes radix text n is =
    let parts = and_parts (nat_lt 0 (length text)) (list_all (λ c. is_digit c radix) text) (if_test _ _ n is) in
    let some : nat_lt 0 (length text) ≡ true = parts.0 in
    record { some = grind (arith, nat_tests); digits = parts.1; number = is }

-- a word's eight digits, given that they are read back
pub word_text : WordIsReadBack → (n : ℕ) → n < 2 ^ 32 → Reads (48 ∷ 120 ∷ word_digits n) (pos n)
unfolding word_of
word_text back n small =
    hexadecimal_reads (word_digits n) n (read_writes 16 (word_digits n) n (if_first (length (word_digits n) == 8) (number_of 16 (word_digits n)) n (back n small))) small
