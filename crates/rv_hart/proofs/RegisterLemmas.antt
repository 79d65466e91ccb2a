-- The place of x0 stays 0, and so is read as what it is.
use Rattle.std.proofs.Common.{◌≡◌, ℕ, ◌<◌, zero, suc, false, List, [], ◌∷◌, set, slice_index, refl, arith}
use Rattle.std.specs.Prelude.{◌==◌}
use Rattle.std.proofs.lemmas.Bool.Decides.{nat_tests}
use Rattle.rv_hart.specs.Registers as registers

pub read_at : (rs : List ℕ) (r : ℕ) → slice_index rs 0 ≡ 0 → slice_index rs r ≡ registers.get rs r
read_at rs zero is = is
read_at rs (suc r) is = let named : (suc r == 0) ≡ false = grind (arith, nat_tests) in rw named refl

pub zero_stays : (rs : List ℕ) (r value : ℕ) → 0 < r → slice_index rs 0 ≡ 0 → slice_index (set rs r value) 0 ≡ 0
zero_stays rs zero value above is = absurd (omega arith)
zero_stays [] (suc r) value above is = is
zero_stays (x ∷ xs) (suc r) value above is = is
