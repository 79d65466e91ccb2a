use Rattle.std.proofs.Common.{◌≡◌, ℕ, zero, suc, refl, ◌^◌, ◌<◌, false, length, get_or, sym, arith}
use Rattle.std.specs.Fmt.{decimal}
use Rattle.std.specs.Str.Parse.{AllDigits, digits_value}
use Rattle.std.proofs.lemmas.Str.Parse.{IsNumeralModel, numerals_by_value, tells_digits}
use Rattle.std.proofs.lemmas.Fmt.{decimal_is_IsNumeral, decimal_digit, first_decimal, decimal-digits_value}
use Rattle.std.proofs.lemmas.Bool.Decides.{nat_tests}
use Rattle.rv_text.specs.Numeral.{number_of}
use Rattle.rv_text.specs.Decimal.{has_leading_zero, decimal_of, DecimalIsReadBack, DecimalHasOneSpelling}
use Rattle.rv_text.proofs.NumberLemmas.{all_digits, all_from_digits, unless_some, IsNumber-from_read, number_of-IsNumber}

own : IsNumeralModel (AllDigits 10) (digits_value 10)
own = numerals_by_value (AllDigits 10) tells_digits

-- what is written has no leading zero
starts_well : (n : ℕ) → n < 2 ^ 64 → has_leading_zero (decimal n) ≡ false
starts_well zero small = rw (decimal_digit 0 (omega arith)) refl
starts_well (suc n) small =
    let first : 48 < get_or (decimal (suc n)) 0 0 = first_decimal (suc n) (omega arith) small in
    grind (arith, nat_tests)

pub read_back : DecimalIsReadBack
unfolding decimal_of
read_back n small =
    let numeral = decimal_is_IsNumeral n small in
    let number = number_of-IsNumber 10 (decimal n) n (record { some = numeral.0.0; all = all_from_digits 10 (decimal n) numeral.0.1; value = numeral.1 }) in
    rw (starts_well n small) number

pub one_spelling : DecimalHasOneSpelling
unfolding decimal_of
one_spelling text n reads small =
    let read = unless_some (has_leading_zero text) (number_of 10 text) n reads in
    let number = IsNumber-from_read 10 text n read.1 in
    let starts : has_leading_zero text ≡ false = read.0 in
    let alone : get_or text 0 0 ≡ 48 → length text ≡ 1 = λ zero. let some = number.some in grind (arith, nat_tests) in
    let fits : digits_value 10 text < 2 ^ 64 = rw number.value small in
    sym (rw number.value at (decimal-digits_value own text (all_digits 10 text number.all) number.some alone fits))
