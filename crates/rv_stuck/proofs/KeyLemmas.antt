-- Equal keys are of equal lists.
use Rattle.std.proofs.Common.{◌≡◌, ℕ, List, [], ◌∷◌, ◌++◌, refl, sym}
use Rattle.std.specs.Prelude.{⊤}
use Rattle.std.specs.List.{flat_map}
use Rattle.rv_waits.specs.declared.touched.Range.{Range}
use Rattle.rv_stuck.specs.Acts.{Conduct, HasExited, HasStopped, IsParked, PollsAt}
use Rattle.rv_stuck.specs.Key.{key, words_of, words_of_range}
use Rattle.rv_stuck.specs.StuckEndLaws.{KeysAreUnique}

-- no range is the first of these words
abbrev BeginsOther : List ℕ → Type 0
BeginsOther [] = ⊤
BeginsOther (word ∷ words) = word ≡ 4 → ⊥

no_range : (words rest : List ℕ) → BeginsOther words → words ≡ 4 ∷ rest → ⊥
no_range [] rest other e = cc
no_range (word ∷ words) rest other e = let first : word ≡ 4 = cc in other first

same_range : (a b : Range) → a.first ≡ b.first → a.size ≡ b.size → a ≡ b
same_range a b first size = λ i. record { first = first i; size = size i }

same_ranges : (a b : List Range) (x y : List ℕ) → BeginsOther x → BeginsOther y → flat_map words_of_range a ++ x ≡ flat_map words_of_range b ++ y → (a ≡ b) × (x ≡ y)
same_ranges [] [] x y other_x other_y e = (refl, e)
same_ranges [] (b ∷ more_b) x y other_x other_y e = absurd (no_range x _ other_x e)
same_ranges (a ∷ more_a) [] x y other_x other_y e = absurd (no_range y _ other_y (sym e))
same_ranges (a ∷ more_a) (b ∷ more_b) x y other_x other_y e =
    let first : a.first ≡ b.first = cc in
    let size : a.size ≡ b.size = cc in
    let rest : flat_map words_of_range more_a ++ x ≡ flat_map words_of_range more_b ++ y = cc in
    let more = same_ranges more_a more_b x y other_x other_y rest in
    let head : a ≡ b = same_range a b first size in
    ((λ i. head i ∷ more.0 i), more.1)

same_words : (a b : Conduct) (x y : List ℕ) → BeginsOther x → BeginsOther y → words_of a ++ x ≡ words_of b ++ y → (a ≡ b) × (x ≡ y)
same_words HasExited HasExited x y other_x other_y e = (refl, cc)
same_words HasExited HasStopped x y other_x other_y e = cc
same_words HasExited IsParked x y other_x other_y e = cc
same_words HasExited (PollsAt pc ranges) x y other_x other_y e = cc
same_words HasStopped HasExited x y other_x other_y e = cc
same_words HasStopped HasStopped x y other_x other_y e = (refl, cc)
same_words HasStopped IsParked x y other_x other_y e = cc
same_words HasStopped (PollsAt pc ranges) x y other_x other_y e = cc
same_words IsParked HasExited x y other_x other_y e = cc
same_words IsParked HasStopped x y other_x other_y e = cc
same_words IsParked IsParked x y other_x other_y e = (refl, cc)
same_words IsParked (PollsAt pc ranges) x y other_x other_y e = cc
same_words (PollsAt pc ranges) HasExited x y other_x other_y e = cc
same_words (PollsAt pc ranges) HasStopped x y other_x other_y e = cc
same_words (PollsAt pc ranges) IsParked x y other_x other_y e = cc
same_words (PollsAt pc ranges) (PollsAt other_pc other_ranges) x y other_x other_y e =
    let at : pc ≡ other_pc = cc in
    let rest : flat_map words_of_range ranges ++ x ≡ flat_map words_of_range other_ranges ++ y = cc in
    let more = same_ranges ranges other_ranges x y other_x other_y rest in
    ((λ i. PollsAt (at i) (more.0 i)), more.1)

begins_other : (a : Conduct) (x : List ℕ) → BeginsOther (words_of a ++ x)
begins_other HasExited x = λ e. cc
begins_other HasStopped x = λ e. cc
begins_other IsParked x = λ e. cc
begins_other (PollsAt pc ranges) x = λ e. cc

key_begins : (harts : List Conduct) → BeginsOther (key harts)
key_begins [] = tt
key_begins (a ∷ more_a) = begins_other a (key more_a)

not_none : (a : Conduct) (x : List ℕ) → words_of a ++ x ≡ [] → ⊥
not_none HasExited x e = cc
not_none HasStopped x e = cc
not_none IsParked x e = cc
not_none (PollsAt pc ranges) x e = cc

pub same_keys : KeysAreUnique
same_keys [] [] e = refl
same_keys [] (b ∷ more_b) e = absurd (not_none b (key more_b) (sym e))
same_keys (a ∷ more_a) [] e = absurd (not_none a (key more_a) e)
same_keys (a ∷ more_a) (b ∷ more_b) e =
    let same = same_words a b (key more_a) (key more_b) (key_begins more_a) (key_begins more_b) e in
    let more : more_a ≡ more_b = same_keys more_a more_b same.1 in
    λ i. same.0 i ∷ more i
