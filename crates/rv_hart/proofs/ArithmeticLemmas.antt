use Rattle.std.proofs.Common.{◌≡◌, ℕ, ◌+◌, ◌*◌, ◌/◌, ◌%◌, ◌^◌, ◌<◌, Bool, true, false, cond, List, length, get_or, set, ℤ, ◌<ℤ◌, refl, arith, get_or-set_same, get_or-set_other}
use Rattle.std.specs.Prelude.{◌≢◌, ◌==◌, ◌↔◌, IsTrue}
use Rattle.std.specs.Int.{int_shr, w32}
use Rattle.std.proofs.Math.Nat.{div-add-mod}
use Rattle.std.proofs.Math.Pow.{pow_pos}
use Rattle.std.proofs.lemmas.Int.{ints, to_z-of_z}
use lib.Signed.{shr_z, mag, mag_shr}
use mir.Val.{SFits}
use Rattle.std.proofs.lemmas.Bool.Decides.{nat_tests}
use Rattle.rv_hart.specs.Registers as registers
use Rattle.rv_hart.specs.StepLaws.{RegistersLaw, ArithmeticLaw}
use Rattle.rv_hart.specs.Arithmetic.{integer, less_signed, shift_left, shift_right, shift_right_signed}

read_back : (rs : List ℕ) (r value : ℕ) → 0 < r → r < length rs → registers.get (registers.set rs r value) r ≡ value
read_back rs r value some within = let named : (r == 0) ≡ false = grind (arith, nat_tests) in rw (named, get_or-set_same)

others_if : (rs : List ℕ) (r other value : ℕ) (b c : Bool) → other ≢ r → cond b 0 (get_or (cond c rs (set rs r value)) other 0) ≡ cond b 0 (get_or rs other 0)
others_if rs r other value true c ne = refl
others_if rs r other value false true ne = refl
others_if rs r other value false false ne = get_or-set_other rs r other value 0 ne

others : (rs : List ℕ) (r other value : ℕ) → other ≢ r → registers.get (registers.set rs r value) other ≡ registers.get rs other
others rs r other value ne = others_if rs r other value (other == 0) (r == 0) ne

pub registers_law : RegistersLaw
registers_law = record { zero = λ rs. refl; zero_stays = λ rs value. refl; read_back = read_back; others = others }

less : (a b : ℕ) → IsTrue (less_signed a b) ↔ (integer a <ℤ integer b)
less a b = (λ h. grind (arith, ints, nat_tests), λ h. grind (arith, ints, nat_tests))

left : (a amount : ℕ) → (carried : ℕ) × (a * 2 ^ amount ≡ shift_left a amount + carried * 2 ^ 32)
left a amount = (a * 2 ^ amount / 2 ^ 32, omega arith)

right : (a amount : ℕ) → (lost : ℕ) × (lost < 2 ^ amount) × (a ≡ shift_right a amount * 2 ^ amount + lost)
right a amount =
    let some : 0 < 2 ^ amount = pow_pos amount in
    let whole : 2 ^ amount * (a / 2 ^ amount) + a % 2 ^ amount ≡ a = div-add-mod a (2 ^ amount) in
    (a % 2 ^ amount, omega arith, grind arith)

shifted_fits : (z : ℤ) (m : ℕ) → SFits w32 z → SFits w32 (shr_z z m)
shifted_fits z m f = record { sfits = omega (arith, mag_shr z m, f.sfits) }

pub integer_fits : (a : ℕ) → a < 2 ^ 32 → SFits w32 (integer a)
integer_fits a low = let small : mag (integer a) < 2 ^ 31 = grind (arith, ints, nat_tests) in record { sfits = small }

right_signed : (a amount : ℕ) → a < 2 ^ 32 → integer (shift_right_signed a amount) ≡ int_shr (integer a) amount
right_signed a amount low =
    to_z-of_z w32 (int_shr (integer a) amount) (shifted_fits (integer a) (2 ^ amount) (integer_fits a low))

pub arithmetic_law : ArithmeticLaw
arithmetic_law = record { less = less; left = left; right = right; right_signed = right_signed }
