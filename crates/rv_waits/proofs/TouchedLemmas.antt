-- What was touched stays so, where more is.
use Rattle.std.proofs.Common.{◌≡◌, ℕ, zero, suc, ◌+◌, ◌⊎◌, inl, inr, Bool, true, false, List, [], ◌∷◌, Option, set, refl, subst, arith}
use Rattle.std.specs.Prelude.{slice_get, IsSomeAnd, ◌||◌, ◌&&◌, max, nat_le, nat_lt}
use Rattle.std.proofs.lemmas.Bool.Decides.{nat_tests}
use Rattle.rv_waits.specs.Touched.{CoversSome, covers, in_instructions, in_ranges}
use Rattle.rv_waits.specs.Touches.{is_among}
use Rattle.rv_waits.specs.declared.touched.Range.{Range}
use Rattle.rv_waits.specs.declared.touched.Touched.{Touched}
use Rattle.rv_waits.specs.internal.Meets.{meets_some, overlaps}

or_left : (a b : Bool) → a ≡ true → (a || b) ≡ true
or_left a b e = rw e refl

or_right : (a b : Bool) → b ≡ true → (a || b) ≡ true
or_right true b e = refl
or_right false b e = e

-- the place holds the range, or none
abbrev IsFree : Range → Option Range → Type 0
IsFree range o = IsSomeAnd o (λ there. (there ≡ range) ⊎ (there.size ≡ 0))

none_among : (first size address : ℕ) → size ≡ 0 → is_among first size address ≡ true → ⊥
none_among first size address none h = grind (arith, nat_tests)

first_kept : (x range : Range) (xs : List Range) (address : ℕ) → (x ≡ range) ⊎ (x.size ≡ 0) → in_ranges (x ∷ xs) address ≡ true → in_ranges (range ∷ xs) address ≡ true
first_kept x range xs address (inl e) h = subst (λ (y : Range). in_ranges (y ∷ xs) address ≡ true) e h
first_kept x range xs address (inr none) h =
    let rest : (b : Bool) → is_among x.first x.size address ≡ b → (b || in_ranges xs address) ≡ true → in_ranges xs address ≡ true =
    λ b. elim b as (λ v. is_among x.first x.size address ≡ v → (v || in_ranges xs address) ≡ true → in_ranges xs address ≡ true) [
      | true ↦ λ e t. absurd (none_among x.first x.size address none e)
      | false ↦ λ e t. t
    ] in
    or_right (is_among range.first range.size address) (in_ranges xs address) (rest (is_among x.first x.size address) refl h)

more_kept : (b : Bool) (xs ys : Bool) → (xs ≡ true → ys ≡ true) → (b || xs) ≡ true → (b || ys) ≡ true
more_kept true xs ys f h = refl
more_kept false xs ys f h = f h

pub ranges_kept : (xs : List Range) (i : ℕ) (range : Range) (address : ℕ) → IsFree range (slice_get xs i) → in_ranges xs address ≡ true → in_ranges (set xs i range) address ≡ true
ranges_kept [] i range address free h = h
ranges_kept (x ∷ xs) zero range address free h = first_kept x range xs address free h
ranges_kept (x ∷ xs) (suc i) range address free h =
    more_kept (is_among x.first x.size address) (in_ranges xs address) (in_ranges (set xs i range) address) (ranges_kept xs i range address free) h

pub range_there : (xs : List Range) (i : ℕ) (range : Range) (address : ℕ) → IsFree range (slice_get xs i) → is_among range.first range.size address ≡ true → in_ranges (set xs i range) address ≡ true
range_there [] i range address free h = absurd free
range_there (x ∷ xs) zero range address free h = or_left _ _ h
range_there (x ∷ xs) (suc i) range address free h = or_right (is_among x.first x.size address) _ (range_there xs i range address free h)

pub covers_kept : (all pcs xs ys : Bool) → (xs ≡ true → ys ≡ true) → (all || (pcs || xs)) ≡ true → (all || (pcs || ys)) ≡ true
covers_kept true pcs xs ys f h = refl
covers_kept false pcs xs ys f h = more_kept pcs xs ys f h

pub covers_range : (all pcs ys : Bool) → ys ≡ true → (all || (pcs || ys)) ≡ true
covers_range all pcs ys h = or_right all (pcs || ys) (or_right pcs ys h)

-- ---- an access that writes none of it

among_both : (first end other size address : ℕ) → is_among other size address ≡ true → overlaps first end other (other + size) ≡ false → (nat_le first address && nat_lt address end) ≡ false
among_both first end other size address among apart = grind (arith, nat_tests)

pub or_false : (a b : Bool) → (a || b) ≡ false → (a ≡ false) × (b ≡ false)
or_false true b h = cc
or_false false b h = (refl, h)

both_false : (a b : Bool) → a ≡ false → b ≡ false → (a || b) ≡ false
both_false a b x y = rw (x, y) refl

no_range : (xs : List Range) (first size address : ℕ) → is_among first size address ≡ true → meets_some xs first size ≡ false → in_ranges xs address ≡ false
no_range [] first size address among apart = refl
no_range (x ∷ xs) first size address among apart =
    let here = or_false (overlaps x.first (x.first + x.size) first (first + size)) (meets_some xs first size) apart in
    both_false (is_among x.first x.size address) (in_ranges xs address) (among_both x.first (x.first + x.size) first size address among here.0) (no_range xs first size address among here.1)

-- what meets nothing of it writes no byte of it
pub none_covered : (touched : Touched) (first size : ℕ) → touched.is_all ≡ false → overlaps touched.least_pc (touched.greatest_pc + 4) first (first + size) ≡ false → meets_some touched.ranges first size ≡ false → (address : ℕ) → is_among first size address ≡ true → covers touched address ≡ false
none_covered touched first size few instructions ranges address among =
    both_false touched.is_all _ few
    (both_false (in_instructions touched.least_pc touched.greatest_pc address) (in_ranges touched.ranges address) (among_both touched.least_pc (touched.greatest_pc + 4) first size address among instructions) (no_range touched.ranges first size address among ranges))

-- ---- an access that may write some of it

shared : (first end other other_end : ℕ) → overlaps first end other other_end ≡ true → (address : ℕ) × ((nat_le other address && nat_lt address other_end) ≡ true) × ((nat_le first address && nat_lt address end) ≡ true)
shared first end other other_end e = (max first other, grind (arith, nat_tests), grind (arith, nat_tests))

-- a byte of these that is one of the ranges
abbrev HasRange : List Range → ℕ → ℕ → Type 0
HasRange xs first size = (address : ℕ) × (is_among first size address ≡ true) × (in_ranges xs address ≡ true)

one_of : (x : Range) (xs : List Range) (first size : ℕ) (here : Bool) → overlaps x.first (x.first + x.size) first (first + size) ≡ here → (here || meets_some xs first size) ≡ true → (meets_some xs first size ≡ true → HasRange xs first size) → HasRange (x ∷ xs) first size
one_of x xs first size true e h more =
    let it = shared x.first (x.first + x.size) first (first + size) e in
    (it.0, it.1, or_left (is_among x.first x.size it.0) (in_ranges xs it.0) it.2)
one_of x xs first size false e h more =
    let it = more h in
    (it.0, it.1, or_right (is_among x.first x.size it.0) (in_ranges xs it.0) it.2)

some_range : (xs : List Range) (first size : ℕ) → meets_some xs first size ≡ true → HasRange xs first size
some_range [] first size h = cc
some_range (x ∷ xs) first size h = one_of x xs first size (overlaps x.first (x.first + x.size) first (first + size)) refl h (some_range xs first size)

pub covers_instruction : (touched : Touched) (first size : ℕ) → overlaps touched.least_pc (touched.greatest_pc + 4) first (first + size) ≡ true → CoversSome touched first size
covers_instruction touched first size h =
    let it = shared touched.least_pc (touched.greatest_pc + 4) first (first + size) h in
    let pcs = in_instructions touched.least_pc touched.greatest_pc it.0 in
    (it.0, it.1, or_right touched.is_all (pcs || in_ranges touched.ranges it.0) (or_left pcs (in_ranges touched.ranges it.0) it.2))

pub covers_data : (touched : Touched) (first size : ℕ) → meets_some touched.ranges first size ≡ true → CoversSome touched first size
covers_data touched first size h =
    let it = some_range touched.ranges first size h in
    (it.0, it.1, covers_range touched.is_all (in_instructions touched.least_pc touched.greatest_pc it.0) (in_ranges touched.ranges it.0) it.2)
