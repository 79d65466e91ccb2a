-- What is folded over a range of places, one more at a time.
use Rattle.std.proofs.Common.{◌≡◌, ℕ, ◌+◌, ◌-◌, ◌≤◌, List, [], ◌∷◌, ◌++◌, Option, Some, None, refl, ap, sym, ◌∙◌, arith, map}
use Rattle.std.specs.Prelude.{filter_map}
use Rattle.std.specs.List.{fold, range_with_len}
use Rattle.std.specs.Option.{option_map_or}
use Rattle.std.proofs.lemmas.List.Elements.{filter_map-append}
use Rattle.std.proofs.lemmas.List.FromFn.{map-range_with_len_more}
use Rattle.std.proofs.lemmas.List.Sums.{fold-append}

mapped_same : (xs : List ℕ) → map (λ (k : ℕ). k) xs ≡ xs
mapped_same [] = refl
mapped_same (x ∷ xs) = ap (λ (ys : List ℕ). x ∷ ys) (mapped_same xs)

-- a range with one more number
range_more : (a n j : ℕ) → a + n ≡ j → range_with_len a (n + 1) ≡ range_with_len a n ++ j ∷ []
range_more a n j is =
    sym (mapped_same (range_with_len a (n + 1))) ∙ map-range_with_len_more (λ (k : ℕ). k) a n j is
    ∙ ap (λ (xs : List ℕ). xs ++ j ∷ []) (mapped_same (range_with_len a n))

-- the places from one on and before another, and that one
range_to : (first place : ℕ) → first ≤ place → range_with_len first (place + 1 - first) ≡ range_with_len first (place - first) ++ place ∷ []
range_to first place le =
    let count : place + 1 - first ≡ (place - first) + 1 = omega arith in
    let last : first + (place - first) ≡ place = omega arith in
    ap (range_with_len first) count ∙ range_more first (place - first) place last

pub fold_to : {Y : Type 0} → (f : Y → ℕ → Y) (z : Y) (first place : ℕ) → first ≤ place → fold f z (range_with_len first (place + 1 - first)) ≡ f (fold f z (range_with_len first (place - first))) place
fold_to f z first place le =
    ap (fold f z) (range_to first place le) ∙ fold-append f z (range_with_len first (place - first)) (place ∷ [])

-- the same from 0 on
pub fold_more : {Y : Type 0} → (f : Y → ℕ → Y) (z : Y) (k : ℕ) → fold f z (range_with_len 0 (k + 1)) ≡ f (fold f z (range_with_len 0 k)) k
fold_more f z k = ap (fold f z) (range_more 0 k k (omega arith)) ∙ fold-append f z (range_with_len 0 k) (k ∷ [])

found_one : {X Y : Type 0} → (f : Y → X → Y) (y : Y) (h : ℕ → Option X) (place : ℕ) (o : Option X) → h place ≡ o → fold f y (filter_map h (place ∷ [])) ≡ option_map_or (f y) (h place) y
found_one f y h place None is = rw is refl
found_one f y h place (Some x) is = rw is refl

-- what is found at one more place, if something is
pub fold_found_to : {X Y : Type 0} → (f : Y → X → Y) (z : Y) (h : ℕ → Option X) (first place : ℕ) → first ≤ place → fold f z (filter_map h (range_with_len first (place + 1 - first))) ≡ option_map_or (f (fold f z (filter_map h (range_with_len first (place - first))))) (h place) (fold f z (filter_map h (range_with_len first (place - first))))
fold_found_to f z h first place le =
    ap (λ (xs : List ℕ). fold f z (filter_map h xs)) (range_to first place le)
    ∙ ap (fold f z) (filter_map-append h (range_with_len first (place - first)) (place ∷ []))
    ∙ fold-append f z (filter_map h (range_with_len first (place - first))) (filter_map h (place ∷ []))
    ∙ found_one f (fold f z (filter_map h (range_with_len first (place - first)))) h place (h place) refl

pub map_to : {X : Type 0} → (f : ℕ → X) (first place : ℕ) → first ≤ place → map f (range_with_len first (place + 1 - first)) ≡ map f (range_with_len first (place - first)) ++ f place ∷ []
map_to f first place le =
    let count : place + 1 - first ≡ (place - first) + 1 = omega arith in
    let last : first + (place - first) ≡ place = omega arith in
    ap (λ (n : ℕ). map f (range_with_len first n)) count ∙ map-range_with_len_more f first (place - first) place last
