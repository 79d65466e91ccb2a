-- Lists of extents that are made of other lists.
use Rattle.std.proofs.Common.{◌≡◌, ℕ, ◌+◌, ◌<◌, ◌||◌, Bool, true, false, List, [], ◌∷◌, map, length, get_or, drop, refl, sym, ap, ◌∙◌}
use Rattle.std.proofs.lemmas.List.{drop_more}
use Rattle.std.specs.List.{list_any}
use Rattle.rv_memory.specs.Extent.{Extent}
use Rattle.rv_memory.specs.Memory.{meets, overlaps}

pub list_any_map : {A B : Type 0} (p : B → Bool) (f : A → B) (xs : List A) → list_any p (map f xs) ≡ list_any (λ x. p (f x)) xs
list_any_map p f [] = refl
list_any_map p f (x ∷ xs) = ap (λ (b : Bool). p (f x) || b) (list_any_map p f xs)

-- one more extent in front
overlaps_cons : {A : Type 0} (f : A → Extent) (x : A) (xs : List A) → overlaps (map f (x ∷ xs)) ≡ (list_any (λ y. meets (f x) (f y)) xs || overlaps (map f xs))
overlaps_cons f x xs = ap (λ (b : Bool). b || overlaps (map f xs)) (list_any_map (meets (f x)) f xs)

-- what stands from a place on
overlaps_at : {A : Type 0} (f : A → Extent) (xs : List A) (k : ℕ) (x : A) → k < length xs → x ≡ get_or xs k x
    → overlaps (map f (drop k xs)) ≡ (list_any (λ y. meets (f x) (f y)) (drop (k + 1) xs) || overlaps (map f (drop (k + 1) xs)))
overlaps_at f xs k x h e =
    ap (λ ys. overlaps (map f ys)) (drop_more xs k x h ∙ ap (λ y. y ∷ drop (k + 1) xs) (sym e)) ∙ overlaps_cons f x (drop (k + 1) xs)

-- a step over the first of what is left
pub meet_found : {A : Type 0} (f : A → Extent) (xs : List A) (k : ℕ) (x : A) → k < length xs → x ≡ get_or xs k x
    → list_any (λ y. meets (f x) (f y)) (drop (k + 1) xs) ≡ true → overlaps (map f (drop k xs)) ≡ overlaps (map f xs) → true ≡ overlaps (map f xs)
meet_found f xs k x h e found so_far =
    sym (ap (λ (b : Bool). b || overlaps (map f (drop (k + 1) xs))) found) ∙ sym (overlaps_at f xs k x h e) ∙ so_far

pub meet_passed : {A : Type 0} (f : A → Extent) (xs : List A) (k : ℕ) (x : A) → k < length xs → x ≡ get_or xs k x
    → list_any (λ y. meets (f x) (f y)) (drop (k + 1) xs) ≡ false → overlaps (map f (drop k xs)) ≡ overlaps (map f xs) → overlaps (map f (drop (k + 1) xs)) ≡ overlaps (map f xs)
meet_passed f xs k x h e passed so_far =
    sym (ap (λ (b : Bool). b || overlaps (map f (drop (k + 1) xs))) passed) ∙ sym (overlaps_at f xs k x h e) ∙ so_far
