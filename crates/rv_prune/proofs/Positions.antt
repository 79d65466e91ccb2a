-- The place of an item in a list of what a function gives.
use Rattle.std.proofs.Common.{◌≡◌, ◌+◌, Bool, cond, not, List, [], ◌∷◌, map, refl, ap}
use Rattle.std.proofs.lemmas.List.{length-map}
use Rattle.std.specs.List.{position, position_or_len}

position_or_len-mapped : {A B : Type 0} (p : B → Bool) (g : A → B) (xs : List A) → position_or_len p (map g xs) ≡ position_or_len (λ x. p (g x)) xs
position_or_len-mapped p g [] = refl
position_or_len-mapped p g (x ∷ xs) = ap (λ n. cond (not (p (g x))) (1 + n) 0) (position_or_len-mapped p g xs)

pub position-mapped : {A B : Type 0} (p : B → Bool) (g : A → B) (xs : List A) → position p (map g xs) ≡ position (λ x. p (g x)) xs
position-mapped p g xs = rw (position_or_len-mapped p g xs, length-map xs g)
