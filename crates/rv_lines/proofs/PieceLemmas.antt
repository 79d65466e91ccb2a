-- Pieces that are taken one by one.
use Rattle.std.proofs.Common.{◌≡◌, ℕ, zero, suc, ◌<◌, ◌-◌, Bool, true, false, List, [], ◌∷◌, Some, None, refl, ap, ◌∙◌, arith}
use Rattle.std.specs.Prelude.{◌&&◌, drop, slice_get}
use Rattle.rv_lines.specs.SourceLines.{are_frames, is_frame}

pub first_and_others : (xs others : List (List ℕ)) (x : List ℕ) → Some x ≡ slice_get xs 0 → others ≡ drop 1 xs → xs ≡ x ∷ others
first_and_others [] others x first rest = cc
first_and_others (y ∷ ys) others x first rest = rw (rest, some_same x y first) refl
  where
    some_same : (a b : List ℕ) → Some a ≡ Some b → a ≡ b
    some_same a b is = cc

pub none_left : (xs : List (List ℕ)) → None ≡ slice_get xs 0 → xs ≡ []
none_left [] first = refl
none_left (y ∷ ys) first = cc

frames_of_suc : (left : ℕ) (function place : List ℕ) (fields : List (List ℕ)) (b : Bool) → is_frame function place ≡ b
    → are_frames (suc left) (function ∷ place ∷ fields) ≡ (b && are_frames left fields)
frames_of_suc left function place fields b is = ap (λ (t : Bool). t && are_frames left fields) is

pub frames_more : (left : ℕ) (function place : List ℕ) (fields : List (List ℕ)) → 0 < left → is_frame function place ≡ true
    → are_frames left (function ∷ place ∷ fields) ≡ are_frames (left - 1) fields
frames_more zero function place fields lt is = absurd (omega arith)
frames_more (suc left) function place fields lt is =
    frames_of_suc left function place fields true is ∙ ap (λ (n : ℕ). are_frames n fields) (omega arith)

pub frames_wrong : (left : ℕ) (function place : List ℕ) (fields : List (List ℕ)) → 0 < left → is_frame function place ≡ false
    → are_frames left (function ∷ place ∷ fields) ≡ false
frames_wrong zero function place fields lt is = absurd (omega arith)
frames_wrong (suc left) function place fields lt is = frames_of_suc left function place fields false is

pub frames_end : (fields : List (List ℕ)) (b : Bool) → ((x : List ℕ) → Some x ≡ slice_get fields 0 → b ≡ false) → (None ≡ slice_get fields 0 → b ≡ true)
    → b ≡ are_frames 0 fields
frames_end [] b some none = none refl
frames_end (x ∷ []) b some none = some x refl
frames_end (x ∷ y ∷ fields) b some none = some x refl
