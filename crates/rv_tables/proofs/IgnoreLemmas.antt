-- The lines of an ignore list, one by one.
use Rattle.std.proofs.Common.{◌≡◌, ℕ, ◌+◌, ◌≤◌, Bool, true, false, List, [], ◌∷◌, ◌++◌, Option, Some, None, Result, Ok, Err, refl, sym, ap, ◌∙◌, arith}
use Rattle.std.specs.Prelude.{drop, if◌then◌else◌, length, slice_get, ◌==◌}
use Rattle.std.specs.Option.{option_map, option_map_or}
use Rattle.std.proofs.lemmas.List.Splits.{length-slice_split}
use Rattle.std.proofs.lemmas.List.Sums.{count_by-le-length}
use Rattle.rv_memory.specs.Chain.{◌>>=◌, want}
use Rattle.rv_text.specs.Pieces.{pieces_of}
use Rattle.rv_tables.specs.internal.Shaped.{after_line, ended, judged, listed_at, unknown_at, unknown_in}
use Rattle.rv_tables.specs.internal.Sought.{lines_in}
use Rattle.rv_tables.specs.merge.Ignore.{Said, at_line, line_of, lines_from, listed, sides_of, words_in, words_of}
use Rattle.rv_tables.specs.declared.merge.fault.IgnoreFault.{IgnoreFault}
use Rattle.rv_tables.specs.declared.merge.fault.IgnoreKind.{IgnoreKind}
use Rattle.rv_tables.specs.declared.merge.fault.IgnoreKind.TheVariants.{Unknown}
use Rattle.rv_tables.specs.declared.merge.ignore.Line.{Line}
use Rattle.rv_tables.specs.declared.merge.ignore.ListedLine.{ListedLine}

abbrev pub Read : Type 0
Read = Result (List Line) IgnoreFault

-- ---- a line more

judged_append : (known : Line → Bool) (before more : List ListedLine) (read : Read) → judged known (before ++ more) read ≡ judged known before (judged known more read)
judged_append known [] more read = refl
judged_append known (x ∷ before) more read = ap (after_line known x) (judged_append known before more read)

-- what a line says, by its words
abbrev said_by : (Line → Bool) → Result (Option Said) IgnoreKind → Result (Option Line) IgnoreKind
said_by known r = r >>= λ pair. want (option_map_or (λ (words : Said). known (sides_of words)) pair true) Unknown >>= λ _. Ok (option_map sides_of pair)

-- what is read of a line and those after it
abbrev with_later : ℕ → Result (Option Line) IgnoreKind → Read → Read
with_later at said read = at_line at said >>= λ line. read >>= λ lines. Ok (listed line ++ lines)

by_nothing : (at : ℕ) (read : Read) → with_later at (Ok None) read ≡ read
by_nothing at (Ok lines) = refl
by_nothing at (Err given) = refl

by_known : (b : Bool) (line : Line) (at : ℕ) (read : Read) → with_later at (want b Unknown >>= λ _. Ok (Some line)) read ≡ (if b then (read >>= λ lines. Ok (line ∷ lines)) else Err (unknown_at at))
by_known true line at read = refl
by_known false line at read = refl

by_words : (known : Line → Bool) (at : ℕ) (pair : Option Said) (read : Read) → with_later at (said_by known (Ok pair)) read ≡ judged known (listed_at at pair) read
by_words known at None read = by_nothing at read
by_words known at (Some pair) read = by_known (known (sides_of pair)) (sides_of pair) at read

by_shape : (known : Line → Bool) (at : ℕ) (pair : Option Said) (r : Result (Option Said) IgnoreKind) (read : Read) → r ≡ Ok pair → with_later at (said_by known r) read ≡ judged known (listed_at at pair) read
by_shape known at pair r read is = rw is (by_words known at pair read)

pub step : (known : Line → Bool) (at : ℕ) (before : List ListedLine) (pair : Option Said) (text : List ℕ) (later : List (List ℕ)) → words_in (words_of text) ≡ Ok pair
    → judged known before (lines_from known at (text ∷ later)) ≡ judged known (before ++ listed_at at pair) (lines_from known (at + 1) later)
unfolding lines_from line_of
step known at before pair text later is =
    ap (judged known before) (by_shape known at pair (words_in (words_of text)) (lines_from known (at + 1) later) is)
    ∙ sym (judged_append known before (listed_at at pair) (lines_from known (at + 1) later))

-- ---- a line that has no shape, and none

faulty_by : (known : Line → Bool) (at : ℕ) (kind : IgnoreKind) (r : Result (Option Said) IgnoreKind) (read : Read) → r ≡ Err kind → with_later at (said_by known r) read ≡ Err (record { line = at; kind = kind })
faulty_by known at kind r read is = rw is refl

pub faulty : (known : Line → Bool) (at : ℕ) (before : List ListedLine) (kind : IgnoreKind) (text : List ℕ) (later : List (List ℕ)) → words_in (words_of text) ≡ Err kind
    → judged known before (lines_from known at (text ∷ later)) ≡ judged known before (ended (Some (record { line = at; kind = kind })))
unfolding lines_from line_of
faulty known at before kind text later is =
    ap (judged known before) (faulty_by known at kind (words_in (words_of text)) (lines_from known (at + 1) later) is)

pub no_more : (known : Line → Bool) (at : ℕ) (before : List ListedLine) → judged known before (lines_from known at []) ≡ judged known before (ended None)
unfolding lines_from
no_more known at before = refl

-- ---- the names of the lines

unknown_step : (b : Bool) (here at : ℕ) (line : Line) (rest : Option ℕ) (read : Read) → (rest ≡ Some at → read ≡ Err (unknown_at at)) → (if b then rest else Some here) ≡ Some at
    → (if b then (read >>= λ lines. Ok (line ∷ lines)) else Err (unknown_at here)) ≡ Err (unknown_at at)
unknown_step true here at line rest read next is = rw (next is) refl
unknown_step false here at line rest read next is =
    let same : here ≡ at = cc in
    ap (λ (n : ℕ). Err (unknown_at n)) same

pub judged_unknown : (known : Line → Bool) (lines : List ListedLine) (read : Read) (at : ℕ) → unknown_in known lines ≡ Some at → judged known lines read ≡ Err (unknown_at at)
judged_unknown known [] read at is = absurd (cc)
judged_unknown known (x ∷ lines) read at is =
    unknown_step (known x.line) x.at at x.line (unknown_in known lines) (judged known lines read) (judged_unknown known lines read at) is

known_step : (b : Bool) (here : ℕ) (line : Line) (rest : Option ℕ) (read : Read) (lines : List Line) → (rest ≡ None → read ≡ Ok lines) → (if b then rest else Some here) ≡ None
    → (if b then (read >>= λ later. Ok (line ∷ later)) else Err (unknown_at here)) ≡ Ok (line ∷ lines)
known_step true here line rest read lines next is = rw (next is) refl
known_step false here line rest read lines next is = absurd (cc)

pub judged_known : (known : Line → Bool) (lines : List ListedLine) → unknown_in known lines ≡ None → judged known lines (ended None) ≡ Ok (lines_in lines)
judged_known known [] is = refl
judged_known known (x ∷ lines) is =
    known_step (known x.line) x.at x.line (unknown_in known lines) (judged known lines (ended None)) (lines_in lines) (judged_known known lines) is

fault_step : (b : Bool) (here : ℕ) (line : Line) (rest : Option ℕ) (read : Read) (fault : IgnoreFault) → (rest ≡ None → read ≡ Err fault) → (if b then rest else Some here) ≡ None
    → (if b then (read >>= λ later. Ok (line ∷ later)) else Err (unknown_at here)) ≡ Err fault
fault_step true here line rest read fault next is = rw (next is) refl
fault_step false here line rest read fault next is = absurd (cc)

pub judged_fault : (known : Line → Bool) (lines : List ListedLine) (fault : IgnoreFault) → unknown_in known lines ≡ None → judged known lines (ended (Some fault)) ≡ Err fault
judged_fault known [] fault is = refl
judged_fault known (x ∷ lines) fault is =
    fault_step (known x.line) x.at x.line (unknown_in known lines) (judged known lines (ended (Some fault))) fault (judged_fault known lines fault) is

-- where each name is taken as known
pub none_unknown : (lines : List ListedLine) → unknown_in (λ line. true) lines ≡ None
none_unknown [] = refl
none_unknown (x ∷ lines) = none_unknown lines

-- ---- the pieces

pub few_pieces : (text : List ℕ) → length (pieces_of 10 text) ≤ length text + 1
few_pieces text =
    let pieces = length-slice_split (λ byte. byte == 10) text in
    let few = count_by-le-length (λ byte. byte == 10) text in
    omega arith

pub first_and_others : (xs others : List (List ℕ)) (x : List ℕ) → Some x ≡ slice_get xs 0 → others ≡ drop 1 xs → xs ≡ x ∷ others
first_and_others [] others x first rest = cc
first_and_others (y ∷ ys) others x first rest = rw (rest, some_same x y first) refl
  where
    some_same : (a b : List ℕ) → Some a ≡ Some b → a ≡ b
    some_same a b is = cc

pub none_left : (xs : List (List ℕ)) → None ≡ slice_get xs 0 → xs ≡ []
none_left [] first = refl
none_left (y ∷ ys) first = cc
