-- A number that is read digit by digit.
use Rattle.std.proofs.Common.{◌≡◌, ℕ, ◌+◌, ◌*◌, ◌<◌, true, Option, List, length, get_or, take, arith, sym, ap, ◌∙◌}
use Rattle.std.specs.List.{list_all}
use Rattle.std.specs.Char.{is_digit, digit_value}
use Rattle.std.specs.Str.Parse.{digits_value}
use Rattle.std.proofs.lemmas.List.Folds.{list_all_more}
use Rattle.std.proofs.lemmas.Int.Digits.{digits_value_more}
use Rattle.std.proofs.lemmas.Bool.Decides.{nat_tests}
use Rattle.rv_tables.specs.HuntRead.{sized}

-- what was read is all digits, and writes the number
pub record SoFar (number : Option ℕ) (read : List ℕ) : Type 0 where
  pub all : list_all (λ c. is_digit c 10) read ≡ true
  pub value : number ≡ sized (digits_value 10 read)

pub SoFar-more : (number longer : Option ℕ) (text : List ℕ) (i : ℕ) → i < length text → SoFar number (take i text) → digit_value (get_or text i 0) < 10 → ((n : ℕ) → number ≡ sized n → longer ≡ sized (n * 10 + digit_value (get_or text i 0))) → SoFar longer (take (i + 1) text)
SoFar-more number longer text i inside before digit more =
    let all = before.all in
    let each = list_all_more (λ c. is_digit c 10) text i 0 inside in
    record {
      all = grind (arith, nat_tests);
      value = more (digits_value 10 (take i text)) before.value ∙ ap sized (sym (digits_value_more 10 text i inside));
    }
