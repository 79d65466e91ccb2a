-- Products and quotients of words: the law that tells what their definitions come to.
use Rattle.std.proofs.Common.{◌≡◌, ℕ, ◌+◌, ◌*◌, ◌/◌, ◌%◌, ◌^◌, ◌<◌, false, ℤ, pos, negsuc, refl, sym, ap, ◌∙◌, arith}
use Rattle.std.specs.Prelude.{◌==◌, ◌+ℤ◌, ◌*ℤ◌, ◌≤ℤ◌, unsigned_abs}
use Rattle.std.specs.Int.{cast_unsigned, int_wrap, w32, w64}
use Rattle.std.specs.Int.RustNames.{FitsSigned, int_div, int_rem}
use Rattle.std.proofs.Math.Nat.{div-add-mod, mod-le}
use Rattle.std.proofs.lemmas.Bool.Decides.{nat_tests}
use Rattle.std.proofs.lemmas.Int.{ints, of_z-to_z, to_z-of_z, quot-rem, rem_below, wrapping_mul-bits}
use lib.Signed.{mag_rem}
use mir.Val.{SFits}
use Rattle.rv_hart.specs.Arithmetic.{integer, word, low_half, high_half, quotient, quotient_signed, remainder, remainder_signed}
use Rattle.rv_hart.specs.StepLaws.{HasSignOf, ProductLaw}
use Rattle.rv_hart.proofs.ArithmeticLemmas.{integer_fits}

low_half_below : (z : ℤ) → low_half z < 2 ^ 32
low_half_below (pos n) = omega arith
low_half_below (negsuc n) = omega arith

pub low_half_is : (a b : ℕ) → a < 2 ^ 32 → b < 2 ^ 32 → a * b % 2 ^ 32 ≡ low_half (integer a *ℤ integer b)
unfolding int_wrap
low_half_is a b a_fits b_fits =
    sym (of_z-to_z w32 (a * b % 2 ^ 32) (omega arith)) ∙ ap (cast_unsigned w32) (wrapping_mul-bits w32 a b a_fits b_fits) ∙ of_z-to_z w32 (low_half (integer a *ℤ integer b)) (low_half_below (integer a *ℤ integer b))

whole_at : (n : ℕ) → n < 2 ^ 64 → high_half (pos n) * 2 ^ 32 + low_half (pos n) ≡ n
whole_at n fits = omega arith

product_below : (a b : ℕ) → a < 2 ^ 32 → b < 2 ^ 32 → a * b < 2 ^ 64
product_below a b a_fits b_fits = grind arith

whole_signed : (z : ℤ) → FitsSigned w64 z → integer (high_half z) *ℤ pos (2 ^ 32) +ℤ pos (low_half z) ≡ z
whole_signed (pos n) fits = grind (arith, ints, fits.sfits)
whole_signed (negsuc n) fits = grind (arith, ints, fits.sfits)

made_up : (a b : ℕ) → 0 < b → (quotient a b * b + remainder a b ≡ a) × (remainder a b < b)
made_up a b some =
    let named : (b == 0) ≡ false = grind (arith, nat_tests) in
    let whole : b * (a / b) + a % b ≡ a = div-add-mod a b in
    rw (named) (grind (arith, whole), grind arith)

rem_fits : (x y : ℤ) → SFits w32 x → SFits w32 (int_rem x y)
rem_fits x y f = record { sfits = omega (arith, mag_rem x y, f.sfits) }

-- the remainder's word stands for it
rem_back : (a b : ℕ) → a < 2 ^ 32 → integer (word (int_rem (integer a) (integer b))) ≡ int_rem (integer a) (integer b)
rem_back a b a_fits = to_z-of_z w32 (int_rem (integer a) (integer b)) (rem_fits (integer a) (integer b) (integer_fits a a_fits))

some_abs : (b : ℕ) → 0 < b → b < 2 ^ 32 → 0 < unsigned_abs (integer b)
some_abs b some fits = grind (arith, ints, nat_tests)

smaller : (a b : ℕ) → 0 < b → a < 2 ^ 32 → b < 2 ^ 32 → unsigned_abs (integer (remainder_signed a b)) < unsigned_abs (integer b)
smaller a b some a_fits b_fits =
    let named : (b == 0) ≡ false = grind (arith, nat_tests) in
    rw (named, rem_back a b a_fits) (rem_below (integer a) (integer b) (some_abs b some b_fits))

rem_sign : (whole by : ℤ) → HasSignOf whole (int_rem whole by)
rem_sign (pos n) by = record { not_negative = λ h. omega (arith, ints); not_positive = λ h. omega (arith, ints, mod-le n (unsigned_abs by)) }
rem_sign (negsuc n) by = record { not_negative = λ h. omega (arith, ints); not_positive = λ h. omega (arith, ints) }

towards_zero : (a b : ℕ) → 0 < b → a < 2 ^ 32 → b < 2 ^ 32 → HasSignOf (integer a) (integer (remainder_signed a b))
towards_zero a b some a_fits b_fits =
    let named : (b == 0) ≡ false = grind (arith, nat_tests) in
    rw (named, rem_back a b a_fits) (rem_sign (integer a) (integer b))

made_up_signed : (a b : ℕ) → 0 < b → FitsSigned w32 (int_div (integer a) (integer b)) → a < 2 ^ 32 → b < 2 ^ 32 → integer (quotient_signed a b) *ℤ integer b +ℤ integer (remainder_signed a b) ≡ integer a
made_up_signed a b some fits a_fits b_fits =
    let named : (b == 0) ≡ false = grind (arith, nat_tests) in
    let q : integer (word (int_div (integer a) (integer b))) ≡ int_div (integer a) (integer b) = to_z-of_z w32 (int_div (integer a) (integer b)) fits in
    let r = rem_back a b a_fits in
    rw (named, q, r) (quot-rem (integer a) (integer b))

pub product_law : ProductLaw
product_law = record {
  whole = λ a b a_fits b_fits. whole_at (a * b) (product_below a b a_fits b_fits);
  whole_signed = whole_signed;
  same_low = λ a b a_fits b_fits. sym (low_half_is a b a_fits b_fits);
  made_up = made_up;
  made_up_signed = made_up_signed;
  smaller = smaller;
  towards_zero = towards_zero;
  by_zero = λ a. (refl, refl, refl, refl);
  overflow = (refl, refl);
}
