use Rattle.std.proofs.Common.{◌≡◌, ℕ, ◌+◌, ◌*◌, ◌<◌, ◌≤◌, Bool, true, false, cond, Option, Some, None, List, [], ◌∷◌, nat_lt, length, get_or, take, arith, refl}
use Rattle.std.specs.List.{list_all}
use Rattle.std.specs.Char.{is_digit, digit_value}
use Rattle.std.specs.Str.Parse.{AllDigits, digits_value}
use Rattle.std.proofs.lemmas.List.Folds.{list_all_more}
use Rattle.std.proofs.lemmas.Int.Digits.{digits_value_more}
use Rattle.std.proofs.lemmas.Str.Parse.{digits_value-take-le}
use Rattle.std.proofs.lemmas.Bool.{and_parts, and_from}
use Rattle.std.proofs.lemmas.Bool.Decides.{nat_tests}
use Rattle.rv_text.specs.Numeral.{number_of, up_to}

-- what was read is all digits, and writes the number, which is within the limit
pub record SoFar (radix limit number : ℕ) (read : List ℕ) : Type 0 where
  pub all : list_all (λ c. is_digit c radix) read ≡ true
  pub value : number ≡ digits_value radix read
  pub within : number ≤ limit

-- one digit more
pub SoFar-more : (radix limit number : ℕ) (text : List ℕ) (i : ℕ) → i < length text → SoFar radix limit number (take i text) → digit_value (get_or text i 0) < radix → number * radix + digit_value (get_or text i 0) ≤ limit → SoFar radix limit (number * radix + digit_value (get_or text i 0)) (take (i + 1) text)
SoFar-more radix limit number text i inside before digit within =
    let more = list_all_more (λ c. is_digit c radix) text i 0 inside in
    let value = digits_value_more radix text i inside in
    record { all = grind (arith, nat_tests); value = grind arith; within = within }

-- the digits up to a place write more than the limit
pub number_passes : (radix limit number : ℕ) (text : List ℕ) (i : ℕ) → 1 ≤ radix → i < length text → SoFar radix limit number (take i text) → limit < number * radix + digit_value (get_or text i 0) → up_to limit (number_of radix text) ≡ None
unfolding number_of
number_passes radix limit number text i some inside before more =
    let value = digits_value_more radix text i inside in
    let up : digits_value radix (take (i + 1) text) ≤ digits_value radix text = digits_value-take-le radix text (i + 1) some in
    let over : limit < digits_value radix text = grind arith in
    grind (arith, nat_tests)

-- digits in std's words
pub all_digits : (radix : ℕ) (text : List ℕ) → list_all (λ c. is_digit c radix) text ≡ true → AllDigits radix text
all_digits radix [] all = tt
all_digits radix (c ∷ cs) all =
    let parts = and_parts (is_digit c radix) (list_all (λ c. is_digit c radix) cs) all in
    let first : is_digit c radix ≡ true = parts.0 in
    (grind (arith, nat_tests), all_digits radix cs parts.1)

pub all_from_digits : (radix : ℕ) (text : List ℕ) → AllDigits radix text → list_all (λ c. is_digit c radix) text ≡ true
all_from_digits radix [] all = refl
all_from_digits radix (c ∷ cs) all =
    let small : digit_value c < radix = all.0 in
    let first : is_digit c radix ≡ true = grind (arith, nat_tests) in
    and_from _ _ first (all_from_digits radix cs all.1)

-- a test before a number
pub if_some : {A : Type 0} (test : Bool) (o : Option A) (x : A) → cond test o None ≡ Some x → (test ≡ true) × (o ≡ Some x)
if_some true o x is = (refl, is)
if_some false o x is = cc

pub unless_some : {A : Type 0} (test : Bool) (o : Option A) (x : A) → cond test None o ≡ Some x → (test ≡ false) × (o ≡ Some x)
unless_some true o x is = cc
unless_some false o x is = (refl, is)

-- what a number was read from
pub record IsNumber (radix n : ℕ) (text : List ℕ) : Type 0 where
  pub some : 0 < length text
  pub all : list_all (λ c. is_digit c radix) text ≡ true
  pub value : digits_value radix text ≡ n

pub IsNumber-from_read : (radix : ℕ) (text : List ℕ) (n : ℕ) → number_of radix text ≡ Some n → IsNumber radix n text
unfolding number_of
IsNumber-from_read radix text n reads =
    let read = if_some _ (Some (digits_value radix text)) n reads in
    let parts = and_parts (nat_lt 0 (length text)) (list_all (λ c. is_digit c radix) text) read.0 in
    let some : nat_lt 0 (length text) ≡ true = parts.0 in
    record { some = grind (arith, nat_tests); all = parts.1; value = cc }

pub number_of-IsNumber : (radix : ℕ) (text : List ℕ) (n : ℕ) → IsNumber radix n text → number_of radix text ≡ Some n
unfolding number_of
number_of-IsNumber radix text n is = let some = is.some in let all = is.all in let value = is.value in grind (arith, nat_tests)
