-- A text that is cut at its LFs.
use Rattle.std.proofs.Common.{◌≡◌, ℕ, ◌<◌, ◌≤◌, Bool, true, false, ◌==◌, nat_lt, All, List, [], ◌∷◌, ◌++◌, length, Ok, Err, refl, ap, ◌∙◌, sym, arith, cond, length-append}
use Rattle.std.specs.List.{list_any, onto_first}
use Rattle.std.proofs.lemmas.Bool.{or_parts, or_from}
use Rattle.std.proofs.lemmas.Bool.Decides.{nat_tests}
use Rattle.std.proofs.lemmas.List.Elements.{All-head, All-tail}
use Rattle.rv_text.specs.Pieces.{pieces_of, Lacks, PiecesAreCut}
use Rattle.rv_collide.specs.ScheduleRead.{first_line, is_over}
use Rattle.rv_collide.specs.declared.schedule.fault.ScheduleKind.TheVariants.{NoEnd, TooLong}

pub lacks_from_all : (byte : ℕ) (text : List ℕ) → All (λ b. (b == byte) ≡ false) text → Lacks byte text
lacks_from_all byte [] all = refl
lacks_from_all byte (b ∷ text) all =
    or_from (b == byte) (list_any (λ b. b == byte) text) (All-head (λ b. (b == byte) ≡ false) b text all) (lacks_from_all byte text (All-tail (λ b. (b == byte) ≡ false) b text all))

-- each text has a piece
pub some_piece : (byte : ℕ) (text : List ℕ) → (first : List ℕ) × (more : List (List ℕ)) × (pieces_of byte text ≡ first ∷ more)
some_piece byte [] = ([], [], refl)
some_piece byte (b ∷ text) = by_test (b == byte) (some_piece byte text)
  where
    by_test : (here : Bool) → (first : List ℕ) × (more : List (List ℕ)) × (pieces_of byte text ≡ first ∷ more)
        → (first : List ℕ) × (more : List (List ℕ)) × (cond here ([] ∷ pieces_of byte text) (onto_first b (pieces_of byte text)) ≡ first ∷ more)
    by_test true rest = ([], pieces_of byte text, refl)
    by_test false (first, more, is) = (b ∷ first, more, ap (onto_first b) is)

-- a long front without the separator makes the first piece long
pub pieces_long : (byte : ℕ) (front rest : List ℕ) → Lacks byte front → (first : List ℕ) × (more : List (List ℕ)) × (pieces_of byte (front ++ rest) ≡ (front ++ first) ∷ more)
pieces_long byte [] rest lacks = some_piece byte rest
pieces_long byte (b ∷ front) rest lacks =
    let parts = or_parts (b == byte) (list_any (λ b. b == byte) front) lacks in
    let later = pieces_long byte front rest parts.1 in
    (later.0, later.1, ap (λ here. cond here ([] ∷ pieces_of byte (front ++ rest)) (onto_first b (pieces_of byte (front ++ rest)))) parts.0 ∙ ap (onto_first b) later.2)

-- ---- the first line

pub line_of : (line : List ℕ) (first : List ℕ) (more : List (List ℕ)) → length line ≤ 64 → first_line (line ∷ first ∷ more) ≡ Ok line
line_of line first more short =
    let fits : nat_lt 64 (length line) ≡ false = grind (arith, nat_tests) in
    rw fits refl

long_line : (line : List ℕ) (more : List (List ℕ)) → 64 < length line → first_line (line ∷ more) ≡ Err TooLong
long_line line [] long =
    let over : nat_lt 64 (length line) ≡ true = grind (arith, nat_tests) in
    rw over refl
long_line line (next ∷ more) long =
    let over : nat_lt 64 (length line) ≡ true = grind (arith, nat_tests) in
    rw over refl

module _ (cut : PiecesAreCut) where
  -- a line that an LF ends
  pub cut_line : (text line rest : List ℕ) → Lacks 10 line → text ≡ line ++ 10 ∷ rest → length line ≤ 64 → first_line (pieces_of 10 text) ≡ Ok line
  cut_line text line rest lacks is short =
      let next = some_piece 10 rest in
      ap (λ t. first_line (pieces_of 10 t)) is ∙ ap first_line ((cut 10 line rest lacks).0 ∙ ap (λ more. line ∷ more) next.2) ∙ line_of line next.0 next.1 short

  pub cut_rest : (text line rest : List ℕ) → Lacks 10 line → text ≡ line ++ 10 ∷ rest → pieces_of 10 text ≡ line ∷ pieces_of 10 rest
  cut_rest text line rest lacks is = ap (pieces_of 10) is ∙ (cut 10 line rest lacks).0

  pub cut_long : (text line rest : List ℕ) → Lacks 10 line → text ≡ line ++ 10 ∷ rest → 64 < length line → first_line (pieces_of 10 text) ≡ Err TooLong
  cut_long text line rest lacks is long = ap first_line (cut_rest text line rest lacks is) ∙ long_line line (pieces_of 10 rest) long

  -- a text without an LF
  pub uncut_long : (text : List ℕ) → Lacks 10 text → 64 < length text → first_line (pieces_of 10 text) ≡ Err TooLong
  uncut_long text lacks long = ap first_line (cut 10 text [] lacks).1 ∙ long_line text [] long

  pub uncut_short : (text : List ℕ) → Lacks 10 text → length text ≤ 64 → first_line (pieces_of 10 text) ≡ Err NoEnd
  uncut_short text lacks short =
      let fits : nat_lt 64 (length text) ≡ false = grind (arith, nat_tests) in
      let one : first_line (text ∷ []) ≡ Err NoEnd = rw fits refl in
      ap first_line (cut 10 text [] lacks).1 ∙ one

pub front_long : (front rest : List ℕ) → Lacks 10 front → 64 < length front → first_line (pieces_of 10 (front ++ rest)) ≡ Err TooLong
front_long front rest lacks long =
    let pieces = pieces_long 10 front rest lacks in
    let longer : 64 < length (front ++ pieces.0) = simp length-append (omega arith) in
    ap first_line pieces.2 ∙ long_line (front ++ pieces.0) pieces.1 longer

-- nothing is left exactly where the pieces are one that is empty
pub over_where_empty : (text : List ℕ) → is_over (pieces_of 10 text) ≡ (length text == 0)
over_where_empty [] = refl
over_where_empty (b ∷ text) =
    let longer : (length (b ∷ text) == 0) ≡ false = grind (arith, nat_tests) in
    by_test (b == 10) (some_piece 10 text) ∙ sym longer
  where
    no_end : (first : List ℕ) (more : List (List ℕ)) → is_over ((b ∷ first) ∷ more) ≡ false
    no_end first [] =
        let longer : (length (b ∷ first) == 0) ≡ false = grind (arith, nat_tests) in
        longer
    no_end first (next ∷ more) = refl

    by_test : (here : Bool) → (first : List ℕ) × (more : List (List ℕ)) × (pieces_of 10 text ≡ first ∷ more)
        → is_over (cond here ([] ∷ pieces_of 10 text) (onto_first b (pieces_of 10 text))) ≡ false
    by_test true (first, more, is) = ap (λ p. is_over ([] ∷ p)) is
    by_test false (first, more, is) = ap (λ p. is_over (onto_first b p)) is ∙ no_end first more
