-- A search goes on by one place.
use Rattle.std.proofs.Common.{◌≡◌, ◌∙◌, ℕ, ◌+◌, ◌-◌, ◌≤◌, ◌<◌, suc, Option, Some, None, refl, sym, ap, arith}
use Rattle.std.specs.Option.{option_or}
use Rattle.rv_gdb.specs.Search.{first_in}

first_goes_on : {A : Type 0} (at : ℕ → Option A) (from count i : ℕ) → i < count → first_in at (from + i) (count - i) ≡ option_or (at (from + i)) (first_in at (from + (i + 1)) (count - (i + 1)))
unfolding first_in
first_goes_on at from count i lt =
    let e : count - i ≡ suc (count - (i + 1)) = omega arith in
    let f : from + i + 1 ≡ from + (i + 1) = omega arith in
    rw (e, sym f) refl

-- what is found at the next place is the first of all
pub first_found : {A : Type 0} (at : ℕ → Option A) (from count i : ℕ) (whole : Option A) (x : A) → i < count → whole ≡ first_in at (from + i) (count - i) → at (from + i) ≡ Some x → whole ≡ Some x
first_found at from count i whole x lt is here =
    is ∙ first_goes_on at from count i lt ∙ ap (λ o. option_or o (first_in at (from + (i + 1)) (count - (i + 1)))) here

-- nothing is found there, and the search goes on
pub first_passed : {A : Type 0} (at : ℕ → Option A) (from count i : ℕ) (whole : Option A) → i < count → whole ≡ first_in at (from + i) (count - i) → at (from + i) ≡ None → whole ≡ first_in at (from + (i + 1)) (count - (i + 1))
first_passed at from count i whole lt is here =
    is ∙ first_goes_on at from count i lt ∙ ap (λ o. option_or o (first_in at (from + (i + 1)) (count - (i + 1)))) here

-- no place is left
pub first_none : {A : Type 0} (at : ℕ → Option A) (from count i : ℕ) (whole : Option A) → count ≤ i → whole ≡ first_in at (from + i) (count - i) → whole ≡ None
unfolding first_in
first_none at from count i whole past is =
    let e : count - i ≡ 0 = omega arith in
    rw e at is
