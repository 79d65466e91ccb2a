use Rattle.std.proofs.Common.{zero, suc, ◌≡◌, ℕ, ◌+◌, ◌-◌, ◌*◌, ◌/◌, ◌%◌, ◌^◌, ◌<◌, ◌≤◌, List, ◌++◌, length, set, drop, arith, append_assoc}
use Rattle.std.specs.Fmt.{decimal}
use Rattle.std.proofs.lemmas.Nat.{pow-add}
use Rattle.std.proofs.lemmas.List.{drop-set}
use Rattle.std.proofs.lemmas.Fmt.{decimal_step, decimal_digit}
use Rattle.std.proofs.lemmas.Grind.{common_steps}

-- the digits from `first + 1` on are written, and those of `rest` have room before them
pub record SoFar (number rest first : ℕ) (digits : List ℕ) : Type 0 where
  pub twenty : length digits ≡ 20
  pub inside : first < 20
  pub room : rest < 10 ^ (first + 1)
  pub written : decimal rest ++ drop (first + 1) digits ≡ decimal number

pow_more : (k : ℕ) → 10 ^ (k + 1) ≡ 10 ^ k * 10
pow_more k = pow-add 10 k 1

-- a rest of two digits or more has its place
pub has_place : (number rest first : ℕ) (digits : List ℕ) → SoFar number rest first digits → 10 ≤ rest → 1 ≤ first
has_place number rest zero digits s more = absurd (omega (arith, s.room))
has_place number rest (suc f) digits s more = omega arith

-- one digit more
pub SoFar-more : (number rest first : ℕ) (digits : List ℕ) → SoFar number rest first digits → 10 ≤ rest → rest < 2 ^ 64 → SoFar number (rest / 10) (first - 1) (set digits first (48 + rest % 10))
SoFar-more number rest first digits s more small =
    let place : first < length digits = omega (arith, s.twenty, s.inside) in
    let some : 1 ≤ first = has_place number rest first digits s more in
    let before : first - 1 + 1 ≡ first = omega arith in
    let step = decimal_step rest more small in
    let after = drop-set digits first (48 + rest % 10) place in
    let room = pow_more first in
    record {
      twenty = grind (arith, common_steps);
      inside = omega (arith, s.inside);
      room = rw before (omega (arith, s.room));
      written = rw (before, after) (rw (step, append_assoc) at s.written);
    }

-- the last digit
pub SoFar-all : (number rest first : ℕ) (digits : List ℕ) → SoFar number rest first digits → rest < 10 → drop first (set digits first (48 + rest)) ≡ decimal number
SoFar-all number rest first digits s small =
    let place : first < length digits = omega (arith, s.twenty, s.inside) in
    rw (drop-set digits first (48 + rest) place) (rw (decimal_digit rest small) at s.written)
