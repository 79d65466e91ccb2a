-- The lines of an ignore list by the numbers of their words.
use Rattle.std.proofs.Common.{◌≡◌, ℕ, ◌+◌, ◌<◌, Bool, true, false, List, [], ◌∷◌, ◌++◌, Option, Some, None, Result, Ok, Err, IfOk, get_or, length, take, refl, sym, ap, subst, ◌∙◌}
use Rattle.std.specs.List.{AllByRecursion, AllZip, list_any}
use Rattle.std.specs.Option.{option_map, option_map_or}
use Rattle.std.specs.Prelude.{All, if◌then◌else◌, is_some, not, ◌==◌, ◌||◌}
use Rattle.std.proofs.lemmas.List.{take_more}
use Rattle.std.proofs.lemmas.List.Elements.{All-from_recursion}
use Rattle.rv_symbols.specs.Naming.{Naming}
use Rattle.rv_lines.specs.SourceLines.{SourceLine}
use Rattle.rv_report.specs.declared.key.Key.{Key}
use Rattle.rv_tables.specs.declared.merge.ignore.Line.{Line}
use Rattle.rv_tables.specs.declared.merge.ignore.ListedLine.{ListedLine}
use Rattle.rv_tables.specs.declared.merge.ignore.Names.{Names}
use Rattle.rv_tables.specs.declared.merge.ignore.Side.{Side}
use Rattle.rv_tables.specs.declared.merge.ignore.Side.TheVariants as side
use Rattle.rv_tables.specs.declared.merge.sought.Instruction.{Instruction}
use Rattle.rv_tables.specs.declared.merge.sought.SoughtLine.{SoughtLine}
use Rattle.rv_tables.specs.declared.merge.sought.SoughtSide.{SoughtSide}
use Rattle.rv_tables.specs.declared.merge.sought.SoughtSide.TheVariants.{Any, Address, Word}
use Rattle.rv_tables.specs.internal.Shaped.{unknown_in}
use Rattle.rv_tables.specs.declared.merge.sought.RacePlaces.{RacePlaces}
use Rattle.rv_tables.specs.internal.Sought.{AreNamesOf, ArePlaces, IsInstruction, IsSought, IsWithin, LineIsWithin, first_unknown, fits, is_known, line_fits, lines_in, sought_side}
use Rattle.rv_tables.specs.internal.Words.{AreMarks, AreNumbered, Keeps, MarksLines, count, is_word_of, number_of}
use Rattle.rv_tables.specs.declared.merge.words.Words.{Words}
use Rattle.rv_tables.specs.merge.Ignore as spec
use Rattle.rv_tables.proofs.WordLemmas.{lines_any, named_any}

-- ---- a side's number

same_side : (one other : SoughtSide) → (let given : Option SoughtSide = Some one in given ≡ Some other) → one ≡ other
same_side one other is = cc

name_is : (given : Option ℕ) (sought : SoughtSide) → option_map Word given ≡ Some sought → (number : ℕ) × (sought ≡ Word number) × (given ≡ Some number)
name_is None sought is = absurd (cc)
name_is (Some number) sought is = (number, sym (same_side (Word number) sought is), refl)

pub kept_side : (old new : Words) → Keeps old new → (given : Side) (sought : SoughtSide) → sought_side old given ≡ Some sought → sought_side new given ≡ Some sought
kept_side old new keeps side.Any sought is = is
kept_side old new keeps (side.Address address) sought is = is
kept_side old new keeps (side.Name word) sought is =
    let name = name_is (number_of old word) sought is in
    ap (option_map Word) (keeps word name.0 name.2) ∙ ap Some (sym name.1)

pub kept_line : (old new : Words) → Keeps old new → (listed : ListedLine) (line : SoughtLine) → IsSought old listed line → IsSought new listed line
kept_line old new keeps listed line is = (
  is.0,
  kept_side old new keeps listed.line.one line.one is.1,
  kept_side old new keeps listed.line.other line.other is.2,
  kept_side old new keeps listed.line.on line.on is.3,
)

pub kept_lines : (old new : Words) → Keeps old new → (listed : List ListedLine) (lines : List SoughtLine) → AllZip (IsSought old) listed lines → AllZip (IsSought new) listed lines
kept_lines old new keeps [] [] are = tt
kept_lines old new keeps [] (line ∷ lines) are = are
kept_lines old new keeps (x ∷ listed) [] are = are
kept_lines old new keeps (x ∷ listed) (line ∷ lines) are =
    (kept_line old new keeps x line are.0, kept_lines old new keeps listed lines are.1)

zip_push : {A B : Type 0} (R : A → B → Type 0) (xs : List A) (ys : List B) (x : A) (y : B) → AllZip R xs ys → R x y → AllZip R (xs ++ x ∷ []) (ys ++ y ∷ [])
zip_push R [] [] x y are is = (is, tt)
zip_push R [] (w ∷ ys) x y are is = absurd are
zip_push R (v ∷ xs) [] x y are is = absurd are
zip_push R (v ∷ xs) (w ∷ ys) x y are is = (are.0, zip_push R xs ys x y are.1 is)

pub lines_more : (words : Words) (listed : List ListedLine) (lines : List SoughtLine) (place : ℕ) (one : ListedLine) (line : SoughtLine) → place < length listed → one ≡ get_or listed place one → AllZip (IsSought words) (take place listed) lines → IsSought words one line
    → AllZip (IsSought words) (take (place + 1) listed) (lines ++ line ∷ [])
lines_more words listed lines place one line within is are sought =
    let taken = take_more listed place one within ∙ ap (λ (l : ListedLine). take place listed ++ l ∷ []) (sym is) in
    rw taken (zip_push (IsSought words) (take place listed) lines one line are sought)

-- ---- numbers are below the count

within_side : (words : Words) → AreNumbered words → (given : Side) (sought : SoughtSide) → sought_side words given ≡ Some sought → IsWithin (count words) sought
within_side words numbered side.Any sought is = subst (IsWithin (count words)) (same_side Any sought is) tt
within_side words numbered (side.Address address) sought is = subst (IsWithin (count words)) (same_side (Address address) sought is) tt
within_side words numbered (side.Name word) sought is =
    let name = name_is (number_of words word) sought is in
    subst (IsWithin (count words)) (sym name.1) (numbered.within word name.0 name.2)

within_each : (words : Words) → AreNumbered words → (listed : List ListedLine) (lines : List SoughtLine) → AllZip (IsSought words) listed lines → AllByRecursion (LineIsWithin (count words)) lines
within_each words numbered [] [] are = tt
within_each words numbered [] (line ∷ lines) are = absurd are
within_each words numbered (x ∷ listed) [] are = absurd are
within_each words numbered (x ∷ listed) (line ∷ lines) are = (
  (within_side words numbered x.line.one line.one are.0.1, within_side words numbered x.line.other line.other are.0.2, within_side words numbered x.line.on line.on are.0.3),
  within_each words numbered listed lines are.1,
)

pub lines_within : (words : Words) → AreNumbered words → (listed : List ListedLine) (lines : List SoughtLine) → AllZip (IsSought words) listed lines → (most : ℕ) → most ≡ count words → All (LineIsWithin most) lines
lines_within words numbered listed lines are most is =
    rw is (All-from_recursion (LineIsWithin (count words)) lines (within_each words numbered listed lines are))

-- ---- known names

-- the names of the symbols and the functions of the source lines are known
abbrev pub AreKnown : Names → List SourceLine → List Bool → Type 0
AreKnown names lines known =
    (number : ℕ) → get_or known number false ≡ (list_any (λ s. s.word == number) names.symbols.items || list_any (λ (line : SourceLine). list_any (is_word_of names.words number) line.frames) lines)

pub known_more : (names : Names) (lines : List SourceLine) (before after : List Bool) → AreMarks names.symbols.items before → MarksLines names.words lines before after → AreKnown names lines after
known_more names lines before after marked more number =
    more number ∙ ap (λ (b : Bool). b || list_any (λ (line : SourceLine). list_any (is_word_of names.words number) line.frames) lines) (marked number)

known_side : (names : Names) (naming : Naming) → AreNamesOf names naming.image → (known : List Bool) → AreKnown names naming.lines known → (given : Side) (sought : SoughtSide) → sought_side names.words given ≡ Some sought → is_known known sought ≡ spec.is_known naming given
known_side names naming are known marked side.Any sought is = ap (is_known known) (sym (same_side Any sought is))
known_side names naming are known marked (side.Address address) sought is = ap (is_known known) (sym (same_side (Address address) sought is))
known_side names naming are known marked (side.Name word) sought is =
    let name = name_is (number_of names.words word) sought is in
    let by_symbols : list_any (λ s. s.word == name.0) names.symbols.items ≡ list_any (spec.is_spelled word) naming.image.symbols =
    ap (list_any (λ s. s.word == name.0)) are.symbols ∙ named_any (λ value size. true) names.words are.numbered word name.0 name.2 naming.image.symbols in
    let by_lines = lines_any names.words are.numbered word name.0 name.2 naming.lines in
    ap (is_known known) name.1 ∙ marked name.0
    ∙ ap (λ (b : Bool). b || list_any (λ (line : SourceLine). list_any (is_word_of names.words name.0) line.frames) naming.lines) by_symbols
    ∙ ap (λ (b : Bool). list_any (spec.is_spelled word) naming.image.symbols || b) by_lines

pub first_unknown_is : (names : Names) (naming : Naming) → AreNamesOf names naming.image → (known : List Bool) → AreKnown names naming.lines known → (listed : List ListedLine) (lines : List SoughtLine) → AllZip (IsSought names.words) listed lines → first_unknown known lines ≡ unknown_in (spec.are_known naming) listed
first_unknown_is names naming are known marked [] [] sought = refl
first_unknown_is names naming are known marked [] (line ∷ lines) sought = absurd sought
first_unknown_is names naming are known marked (x ∷ listed) [] sought = absurd sought
first_unknown_is names naming are known marked (x ∷ listed) (line ∷ lines) sought =
    let one = known_side names naming are known marked x.line.one line.one sought.0.1 in
    let other = known_side names naming are known marked x.line.other line.other sought.0.2 in
    let on = known_side names naming are known marked x.line.on line.on sought.0.3 in
    let next = first_unknown_is names naming are known marked listed lines sought.1 in
    rw (one, other, on, next, sought.0.0) refl

-- ---- lines that fit

-- a place whose names are marked by a test
fits_by : (names : Names) (test : List ℕ → ℕ → Bool) (at : Option ℕ) (place : Instruction) → place.at ≡ at
    → ((word : List ℕ) (number : ℕ) → number_of names.words word ≡ Some number → get_or place.marks.items number false ≡ option_map_or (test word) at false)
    → (given : Side) (sought : SoughtSide) → sought_side names.words given ≡ Some sought → fits place sought ≡ spec.fits_at test given at
fits_by names test at place at_is marks side.Any sought is = ap (fits place) (sym (same_side Any sought is))
fits_by names test at place at_is marks (side.Address address) sought is =
    ap (fits place) (sym (same_side (Address address) sought is)) ∙ ap (λ o. option_map_or (λ given. given == address) o false) at_is
fits_by names test at place at_is marks (side.Name word) sought is =
    let name = name_is (number_of names.words word) sought is in
    ap (fits place) name.1 ∙ marks word name.0 name.2

fits_instruction : (names : Names) (naming : Naming) (at : Option ℕ) (instruction : Instruction) → IsInstruction names naming at instruction → (given : Side) (sought : SoughtSide) → sought_side names.words given ≡ Some sought → fits instruction sought ≡ spec.fits_side naming given at
fits_instruction names naming at instruction is_at given sought is = fits_by names (spec.is_named naming) at instruction is_at.at_is is_at.marks given sought is

line_fits_by : (names : Names) (naming : Naming) (key : Key) (on : Option ℕ) (places : RacePlaces) → ArePlaces names naming key on places → (listed : ListedLine) (line : SoughtLine) → IsSought names.words listed line
    → line_fits places line ≡ spec.fits naming key on listed.line
line_fits_by names naming key on places are listed line sought =
    let one_first = fits_instruction names naming (Some key.first) places.first are.first_is listed.line.one line.one sought.1 in
    let one_second = fits_instruction names naming key.second places.second are.second_is listed.line.one line.one sought.1 in
    let other_first = fits_instruction names naming (Some key.first) places.first are.first_is listed.line.other line.other sought.2 in
    let other_second = fits_instruction names naming key.second places.second are.second_is listed.line.other line.other sought.2 in
    let placed = fits_by names (spec.is_at_name naming.image) on places.on are.on_is.at_is are.on_is.marks listed.line.on line.on sought.3 in
    rw (one_first, one_second, other_first, other_second, placed) refl

pub any_is : (names : Names) (naming : Naming) (key : Key) (on : Option ℕ) (places : RacePlaces) → ArePlaces names naming key on places → (listed : List ListedLine) (lines : List SoughtLine) → AllZip (IsSought names.words) listed lines
    → list_any (line_fits places) lines ≡ spec.any_fits naming (lines_in listed) key on
any_is names naming key on places are [] [] sought = refl
any_is names naming key on places are [] (line ∷ lines) sought = absurd sought
any_is names naming key on places are (x ∷ listed) [] sought = absurd sought
any_is names naming key on places are (x ∷ listed) (line ∷ lines) sought =
    rw (line_fits_by names naming key on places are x line sought.0, any_is names naming key on places are listed lines sought.1) refl

-- ---- whether there is one with an unknown name

pub unknown_told : (naming : Naming) (listed : List ListedLine) → is_some (unknown_in (spec.are_known naming) listed) ≡ spec.has_unknown naming (lines_in listed)
unknown_told naming [] = refl
unknown_told naming (x ∷ listed) = at (spec.are_known naming x.line) (unknown_told naming listed) where
  at : (b : Bool) → is_some (unknown_in (spec.are_known naming) listed) ≡ spec.has_unknown naming (lines_in listed)
      → is_some (if b then unknown_in (spec.are_known naming) listed else Some x.at) ≡ (not b || spec.has_unknown naming (lines_in listed))
  at true next = next
  at false next = refl

pub unknown_ok : {E : Type 0} (r : Result (Option ℕ) E) (naming : Naming) (listed : List ListedLine) (lines : List Line) → lines ≡ lines_in listed → IfOk r (λ line. line ≡ unknown_in (spec.are_known naming) listed)
    → IfOk r (λ line. is_some line ≡ spec.has_unknown naming lines)
unknown_ok (Err fault) naming listed lines same is = tt
unknown_ok (Ok line) naming listed lines same is = ap is_some is ∙ unknown_told naming listed ∙ ap (spec.has_unknown naming) (sym same)
