-- Sums over lists.
use Rattle.std.proofs.Common.{◌≡◌, ℕ, suc, ◌+◌, ◌≤◌, ◌<◌, Bool, true, false, cond, Option, Some, None, List, [], ◌∷◌, All, filter, filter_map, length, map, refl, sym, ap, ◌∙◌, arith}
use Rattle.std.specs.Prelude.{get_or, sum_by}
use Rattle.std.specs.List.{cons_option}
use Rattle.std.specs.Option.{option_map_or}
use Rattle.std.proofs.lemmas.List.Elements.{All-head, All-tail}
use Rattle.std.proofs.lemmas.List.Sums.{sum_by-cons}

module _ {X : Type 0} where
  pub sum_both : (u v z : X → ℕ) → ((x : X) → u x + v x ≡ z x) → (xs : List X) → sum_by u xs + sum_by v xs ≡ sum_by z xs
  sum_both u v z each [] = refl
  sum_both u v z each (x ∷ xs) =
      let here = each x in
      let later = sum_both u v z each xs in
      let one = sum_by-cons u x xs in
      let other = sum_by-cons v x xs in
      let both = sum_by-cons z x xs in
      omega (arith, here, later, one, other, both)

  pub sum_each : (u v : X → ℕ) (xs : List X) → All (λ x. u x ≡ v x) xs → sum_by u xs ≡ sum_by v xs
  sum_each u v [] h = refl
  sum_each u v (x ∷ xs) h =
      let here = All-head (λ y. u y ≡ v y) x xs h in
      let later = sum_each u v xs (All-tail (λ y. u y ≡ v y) x xs h) in
      let one = sum_by-cons u x xs in
      let other = sum_by-cons v x xs in
      omega (arith, here, later, one, other)

  pub sum_none : (u : X → ℕ) → ((x : X) → u x ≡ 0) → (xs : List X) → sum_by u xs ≡ 0
  sum_none u none [] = refl
  sum_none u none (x ∷ xs) =
      let here = none x in
      let later = sum_none u none xs in
      let one = sum_by-cons u x xs in
      omega (arith, here, later, one)

  kept : (w : X → ℕ) (b : Bool) (x : X) (xs : List X) → sum_by w (cond b (x ∷ xs) xs) ≡ cond b (w x) 0 + sum_by w xs
  kept w true x xs = sum_by-cons w x xs
  kept w false x xs = omega arith

  pub sum_filter : (w : X → ℕ) (p : X → Bool) (xs : List X) → sum_by w (filter p xs) ≡ sum_by (λ x. cond (p x) (w x) 0) xs
  sum_filter w p [] = refl
  sum_filter w p (x ∷ xs) =
      let here = kept w (p x) x (filter p xs) in
      let later = sum_filter w p xs in
      let one = sum_by-cons (λ y. cond (p y) (w y) 0) x xs in
      here ∙ ap (λ n. cond (p x) (w x) 0 + n) later ∙ sym one

found : {Y : Type 0} (w : Y → ℕ) (o : Option Y) (ys : List Y) → sum_by w (cons_option o ys) ≡ option_map_or w o 0 + sum_by w ys
found w None ys = omega arith
found w (Some y) ys = sum_by-cons w y ys

module _ {X Y : Type 0} where
  pub sum_filter_map : (f : X → Option Y) (w : Y → ℕ) (xs : List X) → sum_by w (filter_map f xs) ≡ sum_by (λ x. option_map_or w (f x) 0) xs
  sum_filter_map f w [] = refl
  sum_filter_map f w (x ∷ xs) =
      let here = found w (f x) (filter_map f xs) in
      let later = sum_filter_map f w xs in
      let one = sum_by-cons (λ y. option_map_or w (f y) 0) x xs in
      here ∙ ap (λ n. option_map_or w (f x) 0 + n) later ∙ sym one

  pub sum_map : (f : X → Y) (w : Y → ℕ) (xs : List X) → sum_by w (map f xs) ≡ sum_by (λ x. w (f x)) xs
  sum_map f w [] = refl
  sum_map f w (x ∷ xs) =
      let here = sum_by-cons w (f x) (map f xs) in
      let later = sum_map f w xs in
      let one = sum_by-cons (λ y. w (f y)) x xs in
      here ∙ ap (λ n. w (f x) + n) later ∙ sym one
