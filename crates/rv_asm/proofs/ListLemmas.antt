-- Listings written line by line.
use Rattle.std.proofs.Common.{◌≡◌, ℕ, ◌+◌, ◌≤◌, List, [], ◌∷◌, ◌++◌, length, Option, Some, None, ap, refl, sym, ◌∙◌, append-nil, append_assoc, subst, arith}
use Rattle.std.specs.Io.KnownBytes.{Appends}
use Rattle.std.proofs.KnownBytes.{Appends-trans}
use Rattle.std.proofs.lemmas.Grind.{flat_map-append}
use Rattle.rv_text.specs.Lines.{text_of_lines}
use Rattle.rv_asm.specs.Listing.{listed, split_word, word_from, word_lines}

-- lines are written, and those of the bytes that are left are the others
pub record Listed (a b : Option (List ℕ)) (start : ℕ) (bytes : List ℕ) (address : ℕ) (rest : List ℕ) : Type 0 where
  pub done : List (List ℕ)
  pub written : Appends a b (text_of_lines done)
  pub left : word_lines start bytes ≡ done ++ word_lines address rest

split_same : (v w : ℕ) (bytes rest : List ℕ) → ◌≡◌ {A = Option (ℕ × List ℕ)} (Some (v, bytes)) (Some (w, rest)) → (v ≡ w) × (bytes ≡ rest)
split_same v w bytes rest is = let pairs : ◌≡◌ {A = ℕ × List ℕ} (v, bytes) (w, rest) = cc in (ap (λ p. p.0) pairs, ap (λ p. p.1) pairs)

split_length : (bytes : List ℕ) (word : ℕ) (rest : List ℕ) → split_word bytes ≡ Some (word, rest) → length rest + 4 ≡ length bytes
split_length [] word rest is = cc
split_length (a ∷ []) word rest is = cc
split_length (a ∷ b ∷ []) word rest is = cc
split_length (a ∷ b ∷ c ∷ []) word rest is = cc
split_length (a ∷ b ∷ c ∷ d ∷ bytes) word rest is = let same = split_same (word_from a b c d) word bytes rest is in rw (sym same.1) (omega arith)

split_lines : (address : ℕ) (bytes : List ℕ) (word : ℕ) (rest : List ℕ) → split_word bytes ≡ Some (word, rest) → word_lines address bytes ≡ listed address word ∷ word_lines (address + 4) rest
split_lines address [] word rest is = cc
split_lines address (a ∷ []) word rest is = cc
split_lines address (a ∷ b ∷ []) word rest is = cc
split_lines address (a ∷ b ∷ c ∷ []) word rest is = cc
split_lines address (a ∷ b ∷ c ∷ d ∷ bytes) word rest is =
    let same = split_same (word_from a b c d) word bytes rest is in rw (sym same.0, sym same.1) refl

pub no_lines : (address : ℕ) (bytes : List ℕ) → split_word bytes ≡ None → word_lines address bytes ≡ []
no_lines address [] is = refl
no_lines address (a ∷ []) is = refl
no_lines address (a ∷ b ∷ []) is = refl
no_lines address (a ∷ b ∷ c ∷ []) is = refl
no_lines address (a ∷ b ∷ c ∷ d ∷ bytes) is = cc

pub Listed-next : (a b c : Option (List ℕ)) (start : ℕ) (bytes : List ℕ) (address : ℕ) (rest : List ℕ) (word : ℕ) (after : List ℕ) → Listed a b start bytes address rest
    → split_word rest ≡ Some (word, after) → Appends b c (listed address word ++ 10 ∷ []) → Listed a c start bytes (address + 4) after
Listed-next a b c start bytes address rest word after so_far is next =
    let text : text_of_lines so_far.done ++ (listed address word ++ 10 ∷ []) ≡ text_of_lines (so_far.done ++ listed address word ∷ []) =
    sym (flat_map-append (λ line. line ++ 10 ∷ []) so_far.done (listed address word ∷ []) ∙ ap (λ t. text_of_lines so_far.done ++ t) (append-nil (listed address word ++ 10 ∷ []))) in
    record {
      done = so_far.done ++ listed address word ∷ [];
      written = subst (Appends a c) text (Appends-trans a b c _ _ so_far.written next);
      left = so_far.left ∙ ap (λ l. so_far.done ++ l) (split_lines address rest word after is) ∙ sym (append_assoc so_far.done (listed address word ∷ []) _);
    }

pub room_next : (address limit : ℕ) (rest : List ℕ) (word : ℕ) (after : List ℕ) → split_word rest ≡ Some (word, after) → address + length rest ≤ limit → (address + 4) + length after ≤ limit
room_next address limit rest word after is room = omega (arith, split_length rest word after is)

pub Listed-all : (a b : Option (List ℕ)) (start : ℕ) (bytes : List ℕ) (address : ℕ) (rest : List ℕ) → Listed a b start bytes address rest → split_word rest ≡ None → Appends a b (text_of_lines (word_lines start bytes))
Listed-all a b start bytes address rest so_far is =
    subst (Appends a b) (ap text_of_lines (sym (so_far.left ∙ ap (λ l. so_far.done ++ l) (no_lines address rest is) ∙ append-nil so_far.done))) so_far.written

pub Listed-none : (a : Option (List ℕ)) (start : ℕ) (bytes : List ℕ) → Appends a a [] → Listed a a start bytes start bytes
Listed-none a start bytes none = record { done = []; written = none; left = refl }
