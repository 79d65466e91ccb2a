-- Counting values that are taken one by one.
use Rattle.std.proofs.Common.{◌≡◌, ℕ, ◌+◌, ◌≤◌, true, List, [], ◌∷◌, Some, None, length, drop, refl, ap, arith}
use Rattle.std.specs.Prelude.{slice_get, nat_le, if◌then◌else◌}
use Rattle.std.proofs.lemmas.Bool.Decides.{nat_tests}
use Rattle.rv_asm.specs.declared.statement.Expression.{Expression}

pub one_fewer : (values : List Expression) (value : Expression) → Some value ≡ slice_get values 0 → length values ≡ length (drop 1 values) + 1
one_fewer [] value first = absurd (cc)
one_fewer (v ∷ values) value first = omega arith

pub no_more : (values : List Expression) → None ≡ slice_get values 0 → length values ≡ 0
no_more [] none = refl
no_more (v ∷ values) none = absurd (cc)

pub counted : (limit count n : ℕ) → count ≡ n → count ≤ limit → Some count ≡ (if nat_le n limit then Some n else None)
counted limit count n is within =
    let below : nat_le n limit ≡ true = grind (arith, nat_tests) in
    rw below (ap (λ m. Some m) is)
