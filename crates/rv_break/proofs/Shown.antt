-- What the data breakpoints hold after accesses.
use Rattle.std.proofs.Common.{◌≡◌, ◌≤◌, ℕ, zero, suc, ◌+◌, ◌<◌, true, false, cond, List, [], ◌∷◌, ◌++◌, length, get_or, take, drop, set, map, Some, refl, sym, ap, ◌∙◌, arith, add-one}
use Rattle.std.specs.Prelude.{◌==◌, ◌&&◌, Bool, not, is_none, Option, None, find, filter_map, slice_get, option_and_then, option_map}
use Rattle.std.specs.List.{list_all}
use Rattle.std.specs.Option.{option_or}
use Rattle.std.proofs.lemmas.Bool.{and_parts}
use Rattle.std.proofs.lemmas.Bool.Decides.{nat_tests}
use Rattle.std.proofs.lemmas.Option.{slice_get-map}
use Rattle.rv_break.specs.Slots.{Slots, claim_after, is_for, seen_by, slots_after}
use Rattle.rv_break.specs.SlotsLaw.{FirstIsSeen, Shown, Set, leaves, shown}
use Rattle.rv_break.specs.declared.claim.Claim.{Claim}
use Rattle.rv_break.specs.declared.claim.Seen.{Seen}

module _ {X : Type 0} (f : X → X) where
  -- the list with f made of the first i elements
  abbrev pub mapped : List X → ℕ → List X
  mapped xs i = map f (take i xs) ++ drop i xs

  pub mapped_get : (xs : List X) (i : ℕ) (d : X) → get_or (mapped xs i) i d ≡ get_or xs i d
  mapped_get [] zero d = refl
  mapped_get [] (suc i) d = refl
  mapped_get (x ∷ xs) zero d = refl
  mapped_get (x ∷ xs) (suc i) d = mapped_get xs i d

  pub mapped_set : (xs : List X) (i : ℕ) (d : X) → i < length xs → set (mapped xs i) i (f (get_or xs i d)) ≡ mapped xs (suc i)
  mapped_set [] i d below = absurd (omega arith)
  mapped_set (x ∷ xs) zero d below = refl
  mapped_set (x ∷ xs) (suc i) d below = ap (λ ys. f x ∷ ys) (mapped_set xs i d (omega arith))

  pub mapped_all : (xs : List X) (i : ℕ) → length xs ≤ i → mapped xs i ≡ map f xs
  mapped_all [] zero past = refl
  mapped_all [] (suc i) past = refl
  mapped_all (x ∷ xs) zero past = absurd (omega arith)
  mapped_all (x ∷ xs) (suc i) past = ap (λ ys. f x ∷ ys) (mapped_all xs i (omega arith))

  pub mapped_step : (xs ys : List X) (i : ℕ) (d r : X) → ys ≡ mapped xs i → r ≡ f (get_or ys i d) → i < length xs → set ys i r ≡ mapped xs (i + 1)
  mapped_step xs ys i d r before is below =
      ap (λ zs. set zs i r) before
      ∙ ap (λ v. set (mapped xs i) i v) (is ∙ ap (λ zs. f (get_or zs i d)) before ∙ ap f (mapped_get xs i d))
      ∙ mapped_set xs i d below ∙ ap (mapped xs) (sym (add-one i))

or_none : (o : Option Seen) → option_or o None ≡ o
or_none None = refl
or_none (Some seen) = refl

-- what a claim holds after one more access, and the others after that
one_more : (f : Bool) (seen : Seen) (held later : Option Seen) → option_or (cond (is_none held && f) (Some seen) held) later ≡ option_or held (cond f (Some seen) later)
one_more true seen None later = refl
one_more false seen None later = refl
one_more f seen (Some first) later = refl

get_other : (slots : Slots) (other slot : ℕ) (held : Option Claim) → not (other == slot) ≡ true → slice_get (set slots other held) slot ≡ slice_get slots slot
get_other [] other slot held apart = refl
get_other (x ∷ slots) zero zero held apart = cc
get_other (x ∷ slots) zero (suc slot) held apart = refl
get_other (x ∷ slots) (suc other) zero held apart = refl
get_other (x ∷ slots) (suc other) (suc slot) held apart =
    let apart_below : not (other == slot) ≡ true = grind (arith, nat_tests) in
    get_other slots other slot held apart_below

pub first_is_seen : FirstIsSeen
first_is_seen slots slot claim [] there left = ap (option_and_then seen_by) there ∙ sym (or_none claim.seen)
first_is_seen slots slot claim (Shown seen ∷ since) there left =
    first_is_seen (slots_after seen slots) slot (claim_after seen claim) since (slice_get-map (option_map (claim_after seen)) slots slot ∙ ap (option_map (option_map (claim_after seen))) there) left
    ∙ one_more (is_for claim seen) seen claim.seen (find (is_for claim) (filter_map shown since))
first_is_seen slots slot claim (Set other held ∷ since) there left =
    let parts = and_parts (not (other == slot)) (list_all (leaves slot) since) left in
    first_is_seen (set slots other held) slot claim since (get_other slots other slot held parts.0 ∙ there) parts.1
