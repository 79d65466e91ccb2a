-- One more element of a list.
use Rattle.std.proofs.Common.{◌≡◌, ℕ, zero, suc, ◌+◌, List, [], ◌∷◌, ◌++◌, take, Some, ap, ◌∙◌, add-one}
use Rattle.std.specs.Prelude.{slice_get}

next : (xs : List ℕ) (i x : ℕ) → slice_get xs i ≡ Some x → take (suc i) xs ≡ take i xs ++ x ∷ []
next [] i x is = cc
next (y ∷ xs) zero x is = let e : y ≡ x = cc in ap (λ z. z ∷ []) e
next (y ∷ xs) (suc i) x is = ap (λ zs. y ∷ zs) (next xs i x is)

pub take_next : (xs : List ℕ) (i x : ℕ) → slice_get xs i ≡ Some x → take (i + 1) xs ≡ take i xs ++ x ∷ []
take_next xs i x is = ap (λ n. take n xs) (add-one i) ∙ next xs i x is
