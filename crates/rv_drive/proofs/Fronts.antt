-- Lists each of whose items follows from the items before it.
use Rattle.std.proofs.Common.{◌≡◌, ℕ, zero, suc, ◌+◌, ◌<◌, List, [], ◌∷◌, ◌++◌, length, take, Option, Some, refl, sym, ap, ◌∙◌, arith}
use Rattle.std.specs.Prelude.{slice_get}
use Rattle.std.specs.Option.{option_to_list}
use Rattle.std.proofs.lemmas.List.{take_all}

-- the front that is one item longer
pub one_longer : {X : Type 0} → (xs : List X) (n : ℕ) → take (suc n) xs ≡ take n xs ++ option_to_list (slice_get xs n)
one_longer [] zero = refl
one_longer [] (suc n) = refl
one_longer (x ∷ xs) zero = refl
one_longer (x ∷ xs) (suc n) = ap (λ ys. x ∷ ys) (one_longer xs n)

same_fronts : {X : Type 0} → (f : List X → Option X) (one other : List X) → ((place : ℕ) → slice_get one place ≡ f (take place one)) → ((place : ℕ) → slice_get other place ≡ f (take place other)) → (n : ℕ) → take n one ≡ take n other
same_fronts f one other h k zero = refl
same_fronts f one other h k (suc n) =
    let before = same_fronts f one other h k n in
    one_longer one n
    ∙ ap (λ o. take n one ++ option_to_list o) (h n ∙ ap f before ∙ sym (k n))
    ∙ ap (λ xs. xs ++ option_to_list (slice_get other n)) before
    ∙ sym (one_longer other n)

-- at most one list has each item as a function of the items before it, and ends where that gives none
pub one_at_most : {X : Type 0} → (f : List X → Option X) (one other : List X) → ((place : ℕ) → slice_get one place ≡ f (take place one)) → ((place : ℕ) → slice_get other place ≡ f (take place other)) → one ≡ other
one_at_most f one other h k =
    sym (take_all (length one + length other) one (omega arith))
    ∙ same_fronts f one other h k (length one + length other)
    ∙ take_all (length one + length other) other (omega arith)

-- a front of a list is the front of its own length
pub own_length : {X : Type 0} → (xs : List X) (n : ℕ) → take (length (take n xs)) xs ≡ take n xs
own_length [] zero = refl
own_length [] (suc n) = refl
own_length (x ∷ xs) zero = refl
own_length (x ∷ xs) (suc n) = ap (λ ys. x ∷ ys) (own_length xs n)

pub some_there : {X : Type 0} → (xs : List X) (n : ℕ) → n < length xs → (x : X) × (slice_get xs n ≡ Some x)
some_there [] n below = absurd (omega arith)
some_there (x ∷ xs) zero below = (x, refl)
some_there (x ∷ xs) (suc n) below = some_there xs n (omega arith)

-- ---- one more item

pub get_front : {X : Type 0} → (xs ys : List X) (i : ℕ) → i < length xs → slice_get (xs ++ ys) i ≡ slice_get xs i
get_front [] ys i below = absurd (omega arith)
get_front (x ∷ xs) ys zero below = refl
get_front (x ∷ xs) ys (suc i) below = get_front xs ys i (omega arith)

pub get_last : {X : Type 0} → (xs : List X) (x : X) → slice_get (xs ++ x ∷ []) (length xs) ≡ Some x
get_last [] x = refl
get_last (y ∷ xs) x = get_last xs x
