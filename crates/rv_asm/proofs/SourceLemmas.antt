-- The lines of a source, taken from its front.
use Rattle.std.proofs.Common.{◌≡◌, ℕ, ◌<◌, ◌==◌, Bool, true, false, List, [], ◌∷◌, ◌++◌, All, length, refl, ap, sym, ◌∙◌, arith, append_assoc, inl, inr}
use Rattle.std.specs.Prelude.{slice_index, if◌then◌else◌, ◌&&◌}
use Rattle.std.specs.List.{onto_first}
use Rattle.std.proofs.lemmas.Bool.Decides.{nat_tests}
use Rattle.std.proofs.lemmas.List.Elements.{All-head, All-tail, All-nil, All-cons}
use Rattle.rv_asm.specs.Layout.{source_lines}
use Rattle.rv_asm.specs.internal.Returns.{WithoutReturn}

-- no byte of the text is an LF
abbrev pub LacksLf : List ℕ → Type 0
LacksLf text = All (λ b. (b == 10) ≡ false) text

-- a byte in front of one that is no LF
onward : (b : ℕ) (text : List ℕ) → (b == 10) ≡ false → (slice_index text 0 == 10) ≡ false → source_lines (b ∷ text) ≡ onto_first b (source_lines text)
unfolding source_lines
onward b text other next = rw (other, next) (at (b == 13)) where
  at : (cr : Bool) → (if cr && false then source_lines text else onto_first b (source_lines text)) ≡ onto_first b (source_lines text)
  at true = refl
  at false = refl

head : (b : ℕ) (text : List ℕ) → LacksLf (b ∷ text) → (b == 10) ≡ false
head b text lacks = All-head (λ b. (b == 10) ≡ false) b text lacks

tail : (b : ℕ) (text : List ℕ) → LacksLf (b ∷ text) → LacksLf text
tail b text lacks = All-tail (λ b. (b == 10) ≡ false) b text lacks

-- a line before its CR LF
pub source_lines-crlf : (front rest : List ℕ) → LacksLf front → source_lines (front ++ 13 ∷ 10 ∷ rest) ≡ front ∷ source_lines rest
unfolding source_lines
source_lines-crlf [] rest lacks = refl
source_lines-crlf (b ∷ []) rest lacks = onward b (13 ∷ 10 ∷ rest) (head b [] lacks) refl
source_lines-crlf (b ∷ c ∷ front) rest lacks =
    onward b (c ∷ (front ++ 13 ∷ 10 ∷ rest)) (head b (c ∷ front) lacks) (head c front (tail b (c ∷ front) lacks))
    ∙ ap (onto_first b) (source_lines-crlf (c ∷ front) rest (tail b (c ∷ front) lacks))

-- a line before its LF, with no CR between them
pub source_lines-lf : (line rest : List ℕ) → LacksLf line → ((start : List ℕ) → line ≡ start ++ 13 ∷ [] → ⊥) → source_lines (line ++ 10 ∷ rest) ≡ line ∷ source_lines rest
unfolding source_lines
source_lines-lf [] rest lacks plain = refl
source_lines-lf (b ∷ []) rest lacks plain =
    let other : (b == 13) ≡ false = elim (b == 13) as (λ t. (b == 13) ≡ t → (b == 13) ≡ false) [ true ↦ (λ e. let is : b ≡ 13 = grind (arith, nat_tests) in absurd (plain [] (ap (λ x. x ∷ []) is))) | false ↦ (λ e. e) ] refl in
    rw (head b [] lacks, other) refl
source_lines-lf (b ∷ c ∷ line) rest lacks plain =
    onward b (c ∷ (line ++ 10 ∷ rest)) (head b (c ∷ line) lacks) (head c line (tail b (c ∷ line) lacks))
    ∙ ap (onto_first b) (source_lines-lf (c ∷ line) rest (tail b (c ∷ line) lacks) (λ start is. plain (b ∷ start) (ap (λ t. b ∷ t) is)))

-- a last line that lacks its LF
pub source_lines-last : (text : List ℕ) → 0 < length text → LacksLf text → source_lines text ≡ text ∷ []
unfolding source_lines
source_lines-last [] some lacks = absurd (omega arith)
source_lines-last (b ∷ []) some lacks = onward b [] (head b [] lacks) refl
source_lines-last (b ∷ c ∷ text) some lacks =
    onward b (c ∷ text) (head b (c ∷ text) lacks) (head c text (tail b (c ∷ text) lacks))
    ∙ ap (onto_first b) (source_lines-last (c ∷ text) (omega arith) (tail b (c ∷ text) lacks))

-- no LF in a part of a text without LF
front_lacks : (front rest : List ℕ) → LacksLf (front ++ rest) → LacksLf front
front_lacks [] rest lacks = All-nil (λ b. (b == 10) ≡ false)
front_lacks (b ∷ front) rest lacks =
    All-cons (λ b. (b == 10) ≡ false) b front (head b (front ++ rest) lacks) (front_lacks front rest (tail b (front ++ rest) lacks))

-- the first line, up to its LF
pub source_lines-cut : (text line front rest : List ℕ) → LacksLf line → WithoutReturn line front → text ≡ line ++ 10 ∷ rest → source_lines text ≡ front ∷ source_lines rest
source_lines-cut text line front rest lacks (inl is) whole =
    let parts : text ≡ front ++ 13 ∷ 10 ∷ rest = whole ∙ ap (λ l. l ++ 10 ∷ rest) is ∙ append_assoc front (13 ∷ []) (10 ∷ rest) in
    let line_lacks : LacksLf (front ++ 13 ∷ []) = rw (← is) lacks in
    ap source_lines parts ∙ source_lines-crlf front rest (front_lacks front (13 ∷ []) line_lacks)
source_lines-cut text line front rest lacks (inr is) whole =
    ap source_lines whole ∙ source_lines-lf line rest lacks is.1 ∙ ap (λ l. l ∷ source_lines rest) (sym is.0)
