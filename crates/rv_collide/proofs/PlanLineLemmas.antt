use Rattle.std.proofs.Common.{◌≡◌, ℕ, Bool, true, false, ◌&&◌, not, nat_lt, Some, None, is_some, List, [], ◌∷◌, length, refl, ap, ap₂, ◌∙◌, sym, arith, cond}
use Rattle.std.specs.Char.{is_ascii_digit, is_digit}
use Rattle.std.specs.List.{list_all}
use Rattle.std.specs.Str.Parse.{digits_value}
use Rattle.std.proofs.lemmas.Bool.Decides.{nat_tests}
use Rattle.rv_text.specs.Decimal.{decimal_of, has_leading_zero}
use Rattle.rv_text.specs.Numeral.{number_of}

same_digit : (c : ℕ) → is_ascii_digit c ≡ is_digit c 10
same_digit c = grind (arith, nat_tests)

-- the digits of ASCII are those of the radix 10
same_digits : (text : List ℕ) → list_all is_ascii_digit text ≡ list_all (λ c. is_digit c 10) text
same_digits [] = refl
same_digits (c ∷ text) = ap₂ (λ a b. a && b) (same_digit c) (same_digits text)

-- the tests in a row say whether there is a number
by_tests : (zero some all : Bool) (n : ℕ) → is_some (cond zero None (cond (some && all) (Some n) None)) ≡ (some && not zero && all)
by_tests true true true n = refl
by_tests true true false n = refl
by_tests true false all n = refl
by_tests false true true n = refl
by_tests false true false n = refl
by_tests false false all n = refl

pub digits_tell : (text : List ℕ) → is_some (decimal_of text) ≡ (nat_lt 0 (length text) && not (has_leading_zero text) && list_all is_ascii_digit text)
unfolding decimal_of number_of
digits_tell text =
    let tests = by_tests (has_leading_zero text) (nat_lt 0 (length text)) (list_all (λ c. is_digit c 10) text) (digits_value 10 text) in
    tests ∙ ap (λ all. nat_lt 0 (length text) && not (has_leading_zero text) && all) (sym (same_digits text))
