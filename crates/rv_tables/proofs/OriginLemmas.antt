-- The line of what a table is of, word by word.
use Rattle.std.proofs.Common.{◌≡◌, ℕ, zero, suc, ◌+◌, ◌-◌, true, false, List, [], ◌∷◌, ◌++◌, Option, Some, None, refl, ap, sym, ◌∙◌, get_or, arith, take_all, length-drop}
use Rattle.std.specs.Prelude.{◌==◌, codes, drop, length, option_map, slice_get, take}
use Rattle.std.specs.Option.{option_map_or}
use Rattle.std.proofs.lemmas.List.{drop-drop}
use Rattle.std.proofs.lemmas.Option.{slice_get-get_or}
use Rattle.rv_collide.specs.ScheduleRead.{named}
use Rattle.rv_tables.specs.HuntRead.{option_then, sized}
use Rattle.rv_tables.specs.Origin.{is_behind, is_first, origin_in, stretch_in, stretches_in, with_stretch, word_after, words_text}
use Rattle.rv_tables.specs.OriginRead.{last_text, origin_at, rows_text}
use Rattle.rv_tables.specs.declared.origin.Stretch.{Stretch}

abbrev Words : Type 0
Words = List (List ℕ)

-- no more stretches
pub none_left : (before : List Stretch) → stretches_in before [] ≡ Some (before, [])
unfolding stretches_in
none_left before = refl

-- the next word does not begin one
pub other_word : (before : List Stretch) (word : List ℕ) (words : Words) → is_first word ≡ false → stretches_in before (word ∷ words) ≡ Some (before, word ∷ words)
unfolding stretches_in
other_word before word [] other = rw other refl
other_word before word (a ∷ []) other = rw other refl
other_word before word (a ∷ b ∷ []) other = rw other refl
other_word before word (a ∷ b ∷ c ∷ words) other = rw other refl

-- it begins one
pub next_stretch : (before : List Stretch) (word : List ℕ) (words : Words) (stretch : Stretch) → is_first word ≡ true → stretch_in words ≡ Some stretch → is_behind before stretch ≡ true
    → stretches_in before (word ∷ words) ≡ stretches_in (before ++ stretch ∷ []) (drop 3 words)
unfolding stretches_in
next_stretch before word [] stretch first is behind = cc
next_stretch before word (a ∷ []) stretch first is behind = cc
next_stretch before word (a ∷ b ∷ []) stretch first is behind = cc
next_stretch before word (a ∷ b ∷ c ∷ words) stretch first is behind = rw (first, is, behind) refl

pub early_stretch : (before : List Stretch) (word : List ℕ) (words : Words) (stretch : Stretch) → is_first word ≡ true → stretch_in words ≡ Some stretch → is_behind before stretch ≡ false → stretches_in before (word ∷ words) ≡ None
unfolding stretches_in
early_stretch before word [] stretch first is behind = cc
early_stretch before word (a ∷ []) stretch first is behind = cc
early_stretch before word (a ∷ b ∷ []) stretch first is behind = cc
early_stretch before word (a ∷ b ∷ c ∷ words) stretch first is behind = rw (first, is, behind) refl

pub no_stretch : (before : List Stretch) (word : List ℕ) (words : Words) → is_first word ≡ true → stretch_in words ≡ None → stretches_in before (word ∷ words) ≡ None
unfolding stretches_in
no_stretch before word [] first is = rw first refl
no_stretch before word (a ∷ []) first is = rw first refl
no_stretch before word (a ∷ b ∷ []) first is = rw first refl
no_stretch before word (a ∷ b ∷ c ∷ words) first is = rw (first, is) refl

-- ---- a line

-- the words of a line that says what a table is of, from step to step
pub origin_read : (words second third fourth left : Words) (image version : List ℕ) (seed : ℕ) (stretches : List Stretch) → word_after (codes "of") words ≡ Some image → second ≡ drop 2 words
    → word_after (codes "by") second ≡ Some version → third ≡ drop 2 second → option_then (named (codes "seed") third) sized ≡ Some seed → fourth ≡ drop 2 third
    → stretches_in [] fourth ≡ Some (stretches, left) → (length stretches == 0) ≡ false
    → Some (record { image = image; version = version; seed = seed; stretches = stretches; given = words_text left }) ≡ origin_in words
unfolding origin_in
origin_read words second third fourth left image version seed stretches is_image to_second is_version to_third is_seed to_fourth are_stretches some =
    let behind_second : third ≡ drop 4 words = to_third ∙ ap (λ (ws : Words). drop 2 ws) to_second ∙ drop-drop 2 2 words in
    let behind_third : fourth ≡ drop 6 words = to_fourth ∙ ap (λ (ws : Words). drop 2 ws) behind_second ∙ drop-drop 2 4 words in
    let version_in : word_after (codes "by") (drop 2 words) ≡ Some version = ap (λ (ws : Words). word_after (codes "by") ws) (sym to_second) ∙ is_version in
    let seed_in : option_then (named (codes "seed") (drop 4 words)) sized ≡ Some seed = ap (λ (ws : Words). option_then (named (codes "seed") ws) sized) (sym behind_second) ∙ is_seed in
    let rest_in : stretches_in [] (drop 6 words) ≡ Some (stretches, left) = ap (λ (ws : Words). stretches_in [] ws) (sym behind_third) ∙ are_stretches in
    rw (is_image, version_in, seed_in, rest_in, some) refl

-- ---- one stretch more

abbrev Stretches : Type 0
Stretches = List Stretch

same_last : (a b : Stretch) → Some a ≡ Some b → a ≡ b
same_last a b is = cc

some_none : (a : Stretch) → ¬ (Some a ≡ None)
some_none a is = absurd cc

-- behind none there is only that one
pub with_none : (before : Stretches) (stretch : Stretch) → slice_get before (length before - 1) ≡ None → before ++ stretch ∷ [] ≡ with_stretch before stretch
unfolding with_stretch
with_none [] stretch none = refl
with_none (x ∷ xs) stretch none =
    let here : slice_get (x ∷ xs) (length (x ∷ xs) - 1) ≡ Some (get_or (x ∷ xs) (length (x ∷ xs) - 1) x) = slice_get-get_or (x ∷ xs) (length (x ∷ xs) - 1) x (omega arith) in
    absurd (some_none _ (sym here ∙ none))

-- the last one is made longer
longer_at : (before : Stretches) (n : ℕ) (last stretch : Stretch) → length before ≡ suc n → slice_get before n ≡ Some last → (last.end == stretch.first) ≡ true
    → take n before ++ record { first = last.first; end = stretch.end } ∷ [] ≡ with_stretch before stretch
unfolding with_stretch
longer_at [] n last stretch long is ends = cc
longer_at (x ∷ []) zero last stretch long is ends = rw (same_last x last is, ends) refl
longer_at (x ∷ []) (suc n) last stretch long is ends = cc
longer_at (x ∷ y ∷ ys) zero last stretch long is ends = absurd (omega (arith, long))
longer_at (x ∷ y ∷ ys) (suc n) last stretch long is ends = ap (λ (later : Stretches). x ∷ later) (longer_at (y ∷ ys) n last stretch (omega (arith, long)) is ends)

pub with_longer : (before : Stretches) (last stretch : Stretch) → slice_get before (length before - 1) ≡ Some last → (last.end == stretch.first) ≡ true
    → take (length before - 1) before ++ record { first = last.first; end = stretch.end } ∷ [] ≡ with_stretch before stretch
with_longer [] last stretch is ends = cc
with_longer (x ∷ xs) last stretch is ends = longer_at (x ∷ xs) (length (x ∷ xs) - 1) last stretch (omega arith) is ends

-- or there is one more
more_at : (before : Stretches) (n : ℕ) (last stretch : Stretch) → length before ≡ suc n → slice_get before n ≡ Some last → (last.end == stretch.first) ≡ false → before ++ stretch ∷ [] ≡ with_stretch before stretch
unfolding with_stretch
more_at [] n last stretch long is ends = cc
more_at (x ∷ []) zero last stretch long is ends = rw (same_last x last is, ends) refl
more_at (x ∷ []) (suc n) last stretch long is ends = cc
more_at (x ∷ y ∷ ys) zero last stretch long is ends = absurd (omega (arith, long))
more_at (x ∷ y ∷ ys) (suc n) last stretch long is ends = ap (λ (later : Stretches). x ∷ later) (more_at (y ∷ ys) n last stretch (omega (arith, long)) is ends)

pub with_more : (before : Stretches) (last stretch : Stretch) → slice_get before (length before - 1) ≡ Some last → (last.end == stretch.first) ≡ false → before ++ stretch ∷ [] ≡ with_stretch before stretch
with_more [] last stretch is ends = cc
with_more (x ∷ xs) last stretch is ends = more_at (x ∷ xs) (length (x ∷ xs) - 1) last stretch (omega arith) is ends

-- ---- the text behind the rows

pub none_of : (text : List ℕ) → None ≡ origin_at text → (text ≡ rows_text text) × (None ≡ last_text text)
none_of text none = (
  ap (λ (at : Option ℕ). option_map_or (λ place. take (place + 1) text) at text) none,
  ap (λ (at : Option ℕ). option_map (λ place. drop (place + 1) text) at) none,
)

pub rows_before : (text : List ℕ) (place : ℕ) → Some place ≡ origin_at text → take (place + 1) text ≡ rows_text text
rows_before text place is = ap (λ (at : Option ℕ). option_map_or (λ place. take (place + 1) text) at text) is

pub last_behind : (text : List ℕ) (place : ℕ) → Some place ≡ origin_at text → Some (take (length text - (place + 1)) (drop (place + 1) text)) ≡ last_text text
last_behind text place is =
    ap Some (take_all (length text - (place + 1)) (drop (place + 1) text) (omega (arith, length-drop (place + 1) text)))
    ∙ ap (λ (at : Option ℕ). option_map (λ place. drop (place + 1) text) at) is
