-- A number that is read digit by digit, up to a limit.
use Rattle.std.proofs.Common.{◌≡◌, ℕ, ◌+◌, ◌*◌, ◌<◌, ◌≤◌, true, None, List, length, get_or, take, arith}
use Rattle.std.specs.List.{list_all}
use Rattle.std.specs.Char.{is_digit, digit_value}
use Rattle.std.specs.Str.Parse.{digits_value}
use Rattle.std.proofs.lemmas.List.Folds.{list_all_more}
use Rattle.std.proofs.lemmas.Int.Digits.{digits_value_more}
use Rattle.std.proofs.lemmas.Str.Parse.{digits_value-take-le}
use Rattle.std.proofs.lemmas.Bool.Decides.{nat_tests}
use Rattle.rv_text.specs.Numeral.{number_of, up_to}

-- what was read is all digits, and writes the number, which is within the limit
pub record SoFar (limit number : ℕ) (read : List ℕ) : Type 0 where
  pub all : list_all (λ c. is_digit c 10) read ≡ true
  pub value : number ≡ digits_value 10 read
  pub within : number ≤ limit

-- one digit more
pub SoFar-more : (limit number : ℕ) (text : List ℕ) (i : ℕ) → i < length text → SoFar limit number (take i text) → digit_value (get_or text i 0) < 10
    → number * 10 + digit_value (get_or text i 0) ≤ limit → SoFar limit (number * 10 + digit_value (get_or text i 0)) (take (i + 1) text)
SoFar-more limit number text i inside before digit within =
    let more = list_all_more (λ c. is_digit c 10) text i 0 inside in
    let value = digits_value_more 10 text i inside in
    record { all = grind (arith, nat_tests); value = grind arith; within = within }

-- the digits up to a place write more than the limit
pub number_passes : (limit number : ℕ) (text : List ℕ) (i : ℕ) → i < length text → SoFar limit number (take i text) → limit < number * 10 + digit_value (get_or text i 0)
    → up_to limit (number_of 10 text) ≡ None
unfolding number_of
number_passes limit number text i inside before more =
    let value = digits_value_more 10 text i inside in
    let up : digits_value 10 (take (i + 1) text) ≤ digits_value 10 text = digits_value-take-le 10 text (i + 1) (omega arith) in
    let over : limit < digits_value 10 text = grind arith in
    grind (arith, nat_tests)
