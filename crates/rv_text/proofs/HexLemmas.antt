use Rattle.std.proofs.Common.{◌≡◌, ℕ, ◌+◌, ◌-◌, ◌*◌, ◌/◌, ◌%◌, ◌^◌, ◌<◌, true, false, List, [], ◌∷◌, ◌++◌, length, refl, sym, ◌∙◌, arith, zero, suc, zero-add, add-zero, append_assoc, append-nil, length-append}
use Rattle.std.specs.List.{list_all}
use Rattle.std.specs.Char.{is_digit, digit_value, digit_char, is_ascii_uppercase}
use Rattle.std.specs.Str.Parse.{digits_value, digits_value_after}
use Rattle.std.proofs.Math.Nat.{pow-suc}
use Rattle.std.proofs.lemmas.Int.Digits.{digits_value-lt, digits_value_push}
use Rattle.std.proofs.lemmas.List.Folds.{list_all-append}
use Rattle.std.proofs.lemmas.Bool.{and_parts, and_from, or_parts}
use Rattle.std.proofs.lemmas.Bool.Decides.{nat_tests}
use Rattle.rv_text.specs.Numeral.{number_of, up_to}
use Rattle.rv_text.specs.Hexadecimal.{hex_digits, word_digits, word_of, has_uppercase, WordIsReadBack, WordHasOneSpelling}
use Rattle.rv_text.proofs.NumberLemmas.{all_digits, if_some, IsNumber-from_read, number_of-IsNumber}

-- eight digits write a word
pub word_fits : (text : List ℕ) → length text ≡ 8 → up_to (2 ^ 32 - 1) (number_of 16 text) ≡ word_of text
unfolding number_of word_of
word_fits text eight =
    let fits : list_all (λ c. is_digit c 16) text ≡ true → digits_value 16 text < 2 ^ 32 = λ all. rw eight at (digits_value-lt 16 text (all_digits 16 text all)) in
    grind (arith, nat_tests, fits)

-- the digit of a value has that value
value_of_digit : (d : ℕ) → d < 16 → digit_value (digit_char d) ≡ d
value_of_digit d small = grind (arith, nat_tests)

-- a digit that is no capital letter is the digit of its value
digit_of_value : (c : ℕ) → digit_value c < 16 → is_ascii_uppercase c ≡ false → digit_char (digit_value c) ≡ c
digit_of_value c small lower = grind (arith, nat_tests)

-- a number that has room in its digits
written : (places n : ℕ) → n < 16 ^ places → (length (hex_digits places n) ≡ places) × (list_all (λ c. is_digit c 16) (hex_digits places n) ≡ true) × (digits_value 16 (hex_digits places n) ≡ n)
written zero n room = (refl, refl, omega (arith, room))
written (suc places) n room =
    let more = pow-suc 16 places in
    let front = written places (n / 16) (omega (arith, room)) in
    let digit = value_of_digit (n % 16) (omega arith) in
    let small : is_digit (digit_char (n % 16)) 16 ≡ true = grind (arith, nat_tests) in (
      length-append (hex_digits places (n / 16)) _ ∙ omega (arith, front.0),
      list_all-append (λ c. is_digit c 16) (hex_digits places (n / 16)) _ ∙ and_from _ _ front.1 (and_from _ _ small refl),
      digits_value_push 16 (hex_digits places (n / 16)) (digit_char (n % 16)) ∙ omega (arith, front.2, digit),
    )

pub read_back : WordIsReadBack
unfolding word_digits word_of
read_back n small =
    let w = written 8 n small in
    number_of-IsNumber 16 (hex_digits 8 n) n (record { some = omega (arith, w.0); all = w.1; value = w.2 })

-- lower-case digits, after those of `m`
spelling_after : (text : List ℕ) (places m : ℕ) → list_all (λ c. is_digit c 16) text ≡ true → has_uppercase text ≡ false → hex_digits (length text + places) (digits_value_after 16 m text) ≡ hex_digits places m ++ text
spelling_after [] places m all lower = rw (zero-add places) (sym (append-nil (hex_digits places m)))
spelling_after (c ∷ cs) places m all lower =
    let parts = and_parts (is_digit c 16) (list_all (λ c. is_digit c 16) cs) all in
    let digit : is_digit c 16 ≡ true = parts.0 in
    let small : digit_value c < 16 = grind (arith, nat_tests) in
    let cases = or_parts (is_ascii_uppercase c) (has_uppercase cs) lower in
    let rest = spelling_after cs (suc places) (m * 16 + digit_value c) parts.1 cases.1 in
    let here = digit_of_value c small cases.0 in
    let front : (m * 16 + digit_value c) / 16 ≡ m = omega arith in
    let last : (m * 16 + digit_value c) % 16 ≡ digit_value c = omega arith in
    let places_are : length (c ∷ cs) + places ≡ length cs + suc places = omega arith in
    rw places_are (rw (front, last, here, append_assoc) at rest)

pub one_spelling : WordHasOneSpelling
unfolding word_digits word_of
one_spelling text n reads lower =
    let read = if_some _ (number_of 16 text) n reads in
    let number = IsNumber-from_read 16 text n read.1 in
    let eight : length text ≡ 8 = grind (arith, nat_tests) in
    let whole = spelling_after text 0 0 number.all lower in
    sym (rw (add-zero, eight, number.value) at whole)
