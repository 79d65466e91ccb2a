-- Numbers in a circle.
use Rattle.std.proofs.Common.{◌≡◌, ℕ, ◌+◌, ◌-◌, ◌%◌, ◌<◌, inl, inr, sym, ap, ◌∙◌, arith}
use Rattle.std.proofs.Math.Nat.{mod-add-mod, mod-lt, mod-eq_of_lt, add-mod_right}
use Rattle.std.proofs.lemmas.Bool.{cases_lt}

pub mod_once : (from k n : ℕ) → (from % n + k) % n ≡ (from + k) % n
mod_once from k n = mod-add-mod from n k

-- each number below n is reached from any one on, before the circle is closed
pub reaches : (n from h : ℕ) → h < n → (k : ℕ) × (k < n) × ((from + k) % n ≡ h)
reaches n from h below =
    let f = from % n in
    let f_below : from % n < n = mod-lt from (omega arith) in
    elim (cases_lt h (from % n)) [
      | inr le ↦ (
        h - from % n,
        omega arith,
        sym (mod_once from (h - from % n) n)
            ∙ ap (λ m. m % n) (let e : from % n + (h - from % n) ≡ h = omega arith in e) ∙ mod-eq_of_lt below,
      )
      | inl lt ↦ (
        h + n - from % n,
        omega arith,
        sym (mod_once from (h + n - from % n) n)
            ∙ ap (λ m. m % n) (let e : from % n + (h + n - from % n) ≡ h + n = omega arith in e) ∙ add-mod_right h n ∙ mod-eq_of_lt below,
      )
    ]
