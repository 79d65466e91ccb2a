-- Lists of numbers in a row, and what is mapped over them.
use Rattle.std.proofs.Common.{◌≡◌, ◌≢◌, ℕ, zero, suc, ◌+◌, ◌≤◌, ◌<◌, Bool, true, false, cond, List, [], ◌∷◌, ◌++◌, Option, Some, None, map, set, refl, sym, ap, subst, ◌∙◌, arith, add-one, add-zero}
use Rattle.std.specs.Prelude.{◌||◌, find, filter_map, position, is_some}
use Rattle.std.specs.List.{list_any, range_with_len, position_from, cons_option}
use Rattle.std.proofs.lemmas.Iterator.Adapters.{position_from-zero}
use Rattle.std.specs.Option.{option_or}

shift : (a n : ℕ) → a + 1 + n ≡ a + suc n
shift a n = omega arith

-- a range with one more number
pub range_more : (a n : ℕ) → range_with_len a (n + 1) ≡ range_with_len a n ++ (a + n) ∷ []
range_more a zero = rw (add-zero a) refl
range_more a (suc n) =
    ap (range_with_len a) (add-one (suc n))
    ∙ ap (λ xs. a ∷ xs) (subst (λ (k : ℕ). range_with_len (a + 1) k ≡ range_with_len (a + 1) n ++ (a + 1 + n) ∷ []) (add-one n) (range_more (a + 1) n))
    ∙ ap (λ k. a ∷ (range_with_len (a + 1) n ++ k ∷ [])) (shift a n)

pub find_range : (f g : ℕ → Bool) (a n : ℕ) → ((i : ℕ) → a ≤ i → i < a + n → f i ≡ g i) → find f (range_with_len a n) ≡ find g (range_with_len a n)
find_range f g a zero same = refl
find_range f g a (suc n) same =
    let here : f a ≡ g a = same a (omega arith) (omega arith) in
    let rest = find_range f g (a + 1) n (λ i lo hi. same i (omega arith) (omega arith)) in
    ap (λ b. cond b (Some a) (find f (range_with_len (a + 1) n))) here ∙ ap (λ o. cond (g a) (Some a) o) rest

apart : (a j : ℕ) → a + 1 ≤ j → j ≡ a + 0 → ⊥
apart a j lo e = absurd (omega arith)

before : (a i : ℕ) → a ≡ a + suc i → ⊥
before a i e = absurd (omega arith)

map_above : {X : Type 0} → (f g : ℕ → X) (a n : ℕ) → ((j : ℕ) → a ≤ j → g j ≡ f j) → map f (range_with_len a n) ≡ map g (range_with_len a n)
map_above f g a zero same = refl
map_above f g a (suc n) same =
    let here : g a ≡ f a = same a (omega arith) in
    ap (λ x. x ∷ map f (range_with_len (a + 1) n)) (sym here) ∙ ap (λ xs. g a ∷ xs) (map_above f g (a + 1) n (λ j lo. same j (omega arith)))

-- one element of a mapped range replaced
pub set_range : {X : Type 0} → (f g : ℕ → X) (a n i : ℕ) (v : X) → g (a + i) ≡ v → ((j : ℕ) → j ≢ a + i → g j ≡ f j) → set (map f (range_with_len a n)) i v ≡ map g (range_with_len a n)
set_range f g a zero i v here others = refl
set_range f g a (suc n) zero v here others =
    ap (λ x. x ∷ map f (range_with_len (a + 1) n)) (sym here ∙ ap g (add-zero a))
    ∙ ap (λ xs. g a ∷ xs) (map_above f g (a + 1) n (λ j lo. others j (λ e. apart a j lo e)))
set_range f g a (suc n) (suc i) v here others =
    let first : g a ≡ f a = others a (λ e. before a i e) in
    ap (λ x. x ∷ set (map f (range_with_len (a + 1) n)) i v) (sym first)
    ∙ ap (λ xs. g a ∷ xs) (set_range f g (a + 1) n i v (ap g (shift a i) ∙ here) (λ j ne. others j (λ e. ne (e ∙ sym (shift a i)))))

pub map_range_all : {X : Type 0} → (f g : ℕ → X) (a n : ℕ) → ((j : ℕ) → f j ≡ g j) → map f (range_with_len a n) ≡ map g (range_with_len a n)
map_range_all f g a n same = map_above f g a n (λ j lo. sym (same j))

pub map_twice : {X Y Z : Type 0} → (f : Y → Z) (g : X → Y) (xs : List X) → map f (map g xs) ≡ map (λ x. f (g x)) xs
map_twice f g [] = refl
map_twice f g (x ∷ xs) = ap (λ ys. f (g x) ∷ ys) (map_twice f g xs)

pub filter_map_by_map : {X Y : Type 0} → (f : X → Option Y) (xs : List X) → filter_map f xs ≡ filter_map (λ o. o) (map f xs)
filter_map_by_map f [] = refl
filter_map_by_map f (x ∷ xs) = ap (cons_option (f x)) (filter_map_by_map f xs)

pub or_none : {X : Type 0} → (o : Option X) → option_or o None ≡ o
or_none None = refl
or_none (Some x) = refl

-- the first place of a mapped range
pub position_range : {X : Type 0} → (p : X → Bool) (f : ℕ → X) (a n : ℕ) → position_from p a (map f (range_with_len a n)) ≡ find (λ i. p (f i)) (range_with_len a n)
position_range p f a zero = refl
position_range p f a (suc n) = ap (λ o. cond (p (f a)) (Some a) o) (position_range p f (a + 1) n)

pub first_free : {X : Type 0} → (p : X → Bool) (f : ℕ → X) (n : ℕ) → position p (map f (range_with_len 0 n)) ≡ find (λ i. p (f i)) (range_with_len 0 n)
first_free p f n = position_from-zero p (map f (range_with_len 0 n)) ∙ position_range p f 0 n

pub map_same : {X : Type 0} → (f : X → X) (xs : List X) → ((x : X) → f x ≡ x) → map f xs ≡ xs
map_same f [] same = refl
map_same f (x ∷ xs) same = ap (λ y. y ∷ map f xs) (same x) ∙ ap (λ ys. x ∷ ys) (map_same f xs same)

pub any_is_some : {X : Type 0} → (p : X → Bool) (xs : List X) → list_any p xs ≡ is_some (find p xs)
any_is_some p [] = refl
any_is_some p (x ∷ xs) = elim (p x) as (λ b. (b || list_any p xs) ≡ is_some (cond b (Some x) (find p xs))) [ true ↦ refl | false ↦ any_is_some p xs ]
