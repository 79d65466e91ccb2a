-- Slots, and what was made in the order of the places.
use Rattle.std.proofs.Common.{◌≡◌, ℕ, zero, suc, ◌⊎◌, inl, inr, List, [], ◌∷◌, ◌++◌, length, Option, None, Some, replicate, refl, sym, ap, subst, ◌∙◌}
use Rattle.std.specs.Prelude.{slice_get, slice_set}
use Rattle.rv_campaign.specs.internal.Slots.{AreSlots}

-- no slot of an empty list of slots holds anything
none_there : {X : Type 0} (n place : ℕ) (one : X) → slice_get (replicate n None) place ≡ Some (Some one) → ⊥
none_there zero place one there = cc
none_there (suc n) zero one there = cc
none_there (suc n) (suc place) one there = none_there n place one there

pub empty : {K : Type 0} (makes : ℕ → K → Type 0) (slots : List (Option K)) (n : ℕ) → slots ≡ replicate n None → AreSlots makes slots
empty makes slots n is = λ place one there.
    absurd (none_there n place one (ap (λ xs. slice_get xs place) (sym is) ∙ there))

-- what is read of a list in which one element is replaced: that one, or what was there
read_set : {X : Type 0} (xs : List X) (at place : ℕ) (new' other : X) → slice_get (slice_set xs at new') place ≡ Some other → ((place ≡ at) × (new' ≡ other)) ⊎ (slice_get xs place ≡ Some other)
read_set [] at place new' other there = inr there
read_set (x ∷ xs) zero zero new' other there = inl (refl, (let same : Some new' ≡ Some other = there in cc))
read_set (x ∷ xs) zero (suc place) new' other there = inr there
read_set (x ∷ xs) (suc at) zero new' other there = inr there
read_set (x ∷ xs) (suc at) (suc place) new' other there =
    elim (read_set xs at place new' other there) [
      | inl both ↦ inl (ap (λ n. suc n) both.0, both.1)
      | inr before ↦ inr before
    ]

same_some : {X : Type 0} (x y : X) → Some x ≡ Some y → x ≡ y
same_some x y h = cc

pub filled_one : {K : Type 0} (makes : ℕ → K → Type 0) (old new' : List (Option K)) (at : ℕ) (made : K) → new' ≡ slice_set old at (Some made) → makes at made → AreSlots makes old → AreSlots makes new'
filled_one makes old new' at made is here before = λ place one there.
    elim (read_set old at place (Some made) (Some one) (ap (λ xs. slice_get xs place) (sym is) ∙ there)) [
      | inl both ↦
          subst (λ (n : ℕ). makes n one) (sym both.0)
          (subst (λ x. makes at x) (same_some made one both.1) here)
      | inr there_before ↦ before place one there_before
    ]

pub taken_one : {K : Type 0} (makes : ℕ → K → Type 0) (old new' : List (Option K)) (at : ℕ) → new' ≡ slice_set old at None → AreSlots makes old → AreSlots makes new'
taken_one makes old new' at is before = λ place one there.
    elim (read_set old at place None (Some one) (ap (λ xs. slice_get xs place) (sym is) ∙ there)) [
      | inl both ↦ (let no : None ≡ Some one = both.1 in cc)
      | inr there_before ↦ before place one there_before
    ]

-- one more was made, behind those of the places before
more : {X : Type 0} (xs : List X) (x : X) (place : ℕ) (one : X) → slice_get (xs ++ x ∷ []) place ≡ Some one → (slice_get xs place ≡ Some one) ⊎ ((place ≡ length xs) × (x ≡ one))
more [] x zero one there = inr (refl, (let same : Some x ≡ Some one = there in cc))
more [] x (suc place) one there = (let no : None ≡ Some one = there in cc)
more (y ∷ xs) x zero one there = inl there
more (y ∷ xs) x (suc place) one there =
    elim (more xs x place one there) [
      | inl before ↦ inl before
      | inr both ↦ inr (ap (λ n. suc n) both.0, both.1)
    ]

abbrev pub Each : {K : Type 0} → (ℕ → K → Type 0) → List K → Type 0
Each {K = K} makes made = (place : ℕ) (one : K) → slice_get made place ≡ Some one → makes place one

pub one_more : {K : Type 0} (makes : ℕ → K → Type 0) (xs all : List K) (x : K) (at : ℕ) → all ≡ xs ++ x ∷ [] → length xs ≡ at → makes at x → Each makes xs → Each makes all
one_more makes xs all x at is count here before = λ place one there.
    elim (more xs x place one (ap (λ ys. slice_get ys place) (sym is) ∙ there)) [
      | inl there_before ↦ before place one there_before
      | inr both ↦
          subst (λ (n : ℕ). makes n one) (sym (both.0 ∙ count))
          (subst (λ y. makes at y) both.1 here)
    ]
