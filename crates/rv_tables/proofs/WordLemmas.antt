-- The words of an ignore list by numbers, and the symbols that have them for names.
use Rattle.std.proofs.Common.{◌≡◌, ℕ, ◌+◌, ◌<◌, ◌≤◌, Bool, true, false, ◌&&◌, ◌||◌, List, [], ◌∷◌, ◌++◌, Option, Some, None, drop, filter, get_or, length, length-append, slice_get, take, refl, sym, ap, subst, ◌∙◌, ◌⊎◌, inl, inr, eq-eqb, eqb-true, arith}
use Rattle.std.specs.BTreeMap.{UpdatesBy}
use Rattle.std.specs.Cmp.Lexicographic.{slice_cmp}
use Rattle.std.specs.List.{AllByRecursion, cons_option, filter_map, list_any}
use Rattle.std.specs.Option.{option_and_then, option_map, option_map_or, option_to_list}
use Rattle.std.specs.Ordering.{nat_cmp}
use Rattle.std.specs.Prelude.{All, codes, cond, if◌then◌else◌, nat_le, nat_lt, ◌==◌}
use Rattle.std.specs.Str.{bytes_eq}
use Rattle.std.proofs.lemmas.Bool.{cases_Bool}
use Rattle.std.proofs.lemmas.List.{take_more}
use Rattle.std.proofs.lemmas.List.Elements.{All-from_recursion, filter_map-append}
use Rattle.std.proofs.lemmas.Map.Text.{btree_map_updates_str}
use Rattle.std.proofs.lemmas.Slice.Eq.{bytes_eq-Decides}
use Rattle.rv_elf.specs.Contents.{Contents, Named}
use Rattle.rv_symbols.specs.Escaped.{escaped, escaped_byte, escaped_field, field_byte, is_hidden}
use Rattle.rv_symbols.specs.Naming.{Naming}
use Rattle.rv_symbols.specs.Symbols.{symbol_of}
use Rattle.rv_text.specs.Hexadecimal.{byte_digits}
use Rattle.rv_tables.specs.declared.merge.words.NamedSymbol.{NamedSymbol}
use Rattle.rv_tables.specs.declared.merge.words.Words.{Words}
use Rattle.rv_lines.specs.SourceLines.{SourceFrame, SourceLine, frames_at, known_function}
use Rattle.rv_tables.specs.internal.Words.{AreInstructionMarks, AreMarks, AreMarksAt, AreNumbered, Keeps, MarksFrames, MarksLines, MarksMore, count, function_word, holds, is_word_of, named, named_by, number_of, told_word}
use Rattle.rv_tables.specs.merge.Ignore.{as_name, first_escaped, has_function, is_at_name, is_function_of, is_in_name, is_spelled, is_told_by_name, says_other, spelled, spelled_field}

-- ---- a word more

abbrev Adds : Words → Words → List ℕ → ℕ → Type 0
Adds words after word new =
    UpdatesBy (λ x y. slice_cmp nat_cmp x.now y.now) (λ key. slice_cmp nat_cmp word key.now) words.numbers after.numbers (Some new)

at_word : (words after : Words) (word : List ℕ) (new : ℕ) → Adds words after word new → (other : List ℕ) → number_of after other ≡ cond (bytes_eq word other) (Some new) (number_of words other)
at_word words after word new adds other = btree_map_updates_str word words.numbers after.numbers (Some new) adds other

same : (one other : List ℕ) → bytes_eq one other ≡ true → one ≡ other
same one other is = (bytes_eq-Decides one other).0 is

some_same : (a b : ℕ) → Some a ≡ Some b → a ≡ b
some_same a b is = cc

pub grown_keeps : (words after : Words) (word : List ℕ) (new : ℕ) → number_of words word ≡ None → Adds words after word new → Keeps words after
grown_keeps words after word new none adds other number is = elim (cases_Bool (bytes_eq word other)) [
  | inl t ↦
      let here : word ≡ other = same word other t in
      let none_here : number_of words other ≡ None = rw (← here) none in
      absurd (cc (none_here, is))
  | inr n ↦ at_word words after word new adds other ∙ rw n is
]

-- a number that is there after is the new one, of the new word, or one that was there
grown_by : (words after : Words) (word other : List ℕ) (new number : ℕ) → Adds words after word new → number_of after other ≡ Some number → ((word ≡ other) × (number ≡ new)) ⊎ (number_of words other ≡ Some number)
grown_by words after word other new number adds is = elim (cases_Bool (bytes_eq word other)) [
  | inl t ↦
      let found : Some new ≡ Some number = rw t at (sym (at_word words after word new adds other) ∙ is) in
      inl (same word other t, sym (some_same new number found))
  | inr n ↦ inr (rw n at (sym (at_word words after word new adds other) ∙ is))
]

pub grown : (words after : Words) (word : List ℕ) (new : ℕ) → AreNumbered words → new ≡ count words → Adds words after word new → count after ≡ count words + 1 → words.longest ≤ after.longest → length word ≤ after.longest → AreNumbered after
grown words after word new numbered next adds more longer long = record {
  within = λ other number is. elim (grown_by words after word other new number adds is) [
    | inl found ↦ let at : number ≡ new = found.1 in omega arith
    | inr old ↦ let below = numbered.within other number old in omega arith
  ];
  apart = λ one other number is_one is_other. elim (grown_by words after word one new number adds is_one) [
    | inl found ↦ elim (grown_by words after word other new number adds is_other) [
      | inl found_too ↦ sym found.0 ∙ found_too.0
      | inr old ↦ let below = numbered.within other number old in let at : number ≡ new = found.1 in absurd (omega arith)
    ]
    | inr old ↦ elim (grown_by words after word other new number adds is_other) [
      | inl found ↦ let below = numbered.within one number old in let at : number ≡ new = found.1 in absurd (omega arith)
      | inr old_too ↦ numbered.apart one other number old old_too
    ]
  ];
  short = λ other number is. elim (grown_by words after word other new number adds is) [
    | inl found ↦ subst (λ (w : List ℕ). length w ≤ after.longest) found.0 long
    | inr old ↦ let short = numbered.short other number old in omega arith
  ];
}

-- ---- the number of a name

unnumbered : (words : Words) (name word : List ℕ) (number : ℕ) → number_of words name ≡ None → number_of words word ≡ Some number → bytes_eq name word ≡ false
unnumbered words name word number none is = elim (cases_Bool (bytes_eq name word)) [
  | inl t ↦
      let none_here : number_of words word ≡ None = rw (← same name word t) none in
      absurd (cc (none_here, is))
  | inr n ↦ n
]

same_number : (words : Words) → AreNumbered words → (name word : List ℕ) (one number : ℕ) → number_of words name ≡ Some one → number_of words word ≡ Some number → (one == number) ≡ bytes_eq name word
same_number words numbered name word one number named is = elim (cases_Bool (one == number)) [
  | inl t ↦
      let equal : one ≡ number = eqb-true one number t in
      let here : name ≡ word = numbered.apart name word number (named ∙ ap Some equal) is in
      t ∙ sym ((bytes_eq-Decides name word).1 here)
  | inr n ↦ elim (cases_Bool (bytes_eq name word)) [
    | inl t ↦
        let numbered_too : number_of words word ≡ Some one = rw (← same name word t) named in
        let equal : one ≡ number = some_same one number (sym numbered_too ∙ is) in
        absurd (cc (n, eq-eqb one number equal))
    | inr differs ↦ n ∙ sym differs
  ]
]

-- a name is no longer than as it is shown
byte_shown : (byte : ℕ) → 1 ≤ length (escaped_byte byte)
byte_shown byte = at (is_hidden byte) (byte == 92) where
  at : (hidden backslash : Bool) → 1 ≤ length (if hidden then codes "\\x" ++ byte_digits byte else (if backslash then 92 ∷ 92 ∷ [] else byte ∷ []))
  at true backslash = let two = length-append (codes "\\x") (byte_digits byte) in omega arith
  at false true = omega arith
  at false false = omega arith

shown_length : (name : List ℕ) → length name ≤ length (escaped name)
shown_length [] = omega arith
shown_length (byte ∷ name) =
    let both = length-append (escaped_byte byte) (escaped name) in
    let first = byte_shown byte in
    let next = shown_length name in
    omega arith

escaped_first : (word : List ℕ) → length word ≤ length (first_escaped word)
escaped_first [] = omega arith
escaped_first (byte ∷ rest) =
    let all = length-append (codes "\\x") (byte_digits byte ++ rest) in
    let front : length (byte_digits byte ++ rest) ≡ length (byte_digits byte) + length rest = length-append (byte_digits byte) rest in
    let two : length (codes "\\x") ≡ 2 = refl in
    omega arith

named_length : (word : List ℕ) → length word ≤ length (as_name word)
named_length word = at (says_other word) where
  at : (b : Bool) → length word ≤ length (if b then first_escaped word else word)
  at true = escaped_first word
  at false = omega arith

pub spelled_length : (name : List ℕ) → length name ≤ length (spelled name)
unfolding spelled
spelled_length name =
    let shown = shown_length name in
    let named = named_length (escaped name) in
    omega arith

field_shown : (byte : ℕ) → 1 ≤ length (field_byte byte)
field_shown byte = at (is_hidden byte) where
  at : (hidden : Bool) → 1 ≤ length (if hidden then codes "\\x" ++ byte_digits byte else byte ∷ [])
  at true = let two = length-append (codes "\\x") (byte_digits byte) in omega arith
  at false = omega arith

field_length : (field : List ℕ) → length field ≤ length (escaped_field field)
field_length [] = omega arith
field_length (byte ∷ field) =
    let both = length-append (field_byte byte) (escaped_field field) in
    let first = field_shown byte in
    let next = field_length field in
    omega arith

pub spelled_field_length : (field : List ℕ) → length field ≤ length (spelled_field field)
unfolding spelled_field
spelled_field_length field =
    let shown = field_length field in
    let named = named_length (escaped_field field) in
    omega arith

pub field_too_long : (words : Words) → AreNumbered words → (field : List ℕ) → words.longest < length field → number_of words (spelled_field field) ≡ None
field_too_long words numbered field long = at (number_of words (spelled_field field)) refl where
  at : (given : Option ℕ) → number_of words (spelled_field field) ≡ given → given ≡ None
  at None is = refl
  at (Some number) is =
      let short = numbered.short (spelled_field field) number is in
      let shown = spelled_field_length field in
      absurd (omega arith)

pub long_function : (words : Words) → AreNumbered words → (frame : SourceFrame) (function : List ℕ) → known_function frame ≡ Some function → words.longest < length function → function_word words frame ≡ None
long_function words numbered frame function is long = ap (λ (known : Option (List ℕ)). option_and_then (λ (f : List ℕ). number_of words (spelled_field f)) known) is ∙ field_too_long words numbered function long

pub too_long : (words : Words) → AreNumbered words → (name : List ℕ) → words.longest < length name → number_of words (spelled name) ≡ None
too_long words numbered name long = at (number_of words (spelled name)) refl where
  at : (given : Option ℕ) → number_of words (spelled name) ≡ given → given ≡ None
  at None is = refl
  at (Some number) is =
      let short = numbered.short (spelled name) number is in
      let shown = spelled_length name in
      absurd (omega arith)

-- ---- the symbols that words name

or_assoc : (a b c : Bool) → ((a || b) || c) ≡ (a || (b || c))
or_assoc true b c = refl
or_assoc false b c = refl

and_false : (b : Bool) → b && false ≡ false
and_false true = refl
and_false false = refl

abbrev Test : Type 0
Test = ℕ → ℕ → Bool

named_step : (test : Test) (words : Words) → AreNumbered words → (word : List ℕ) (number : ℕ) → number_of words word ≡ Some number → (symbol : Named) (rest : List NamedSymbol) (later : Bool)
    → list_any (λ (s : NamedSymbol). test s.value s.size && (s.word == number)) rest ≡ later → (named : Option ℕ) → number_of words (spelled symbol.name) ≡ named
    → list_any (λ (s : NamedSymbol). test s.value s.size && (s.word == number)) (cons_option (option_map (λ n. let s : NamedSymbol = record { word = n; value = symbol.value; size = symbol.size } in s) named) rest)
    ≡ ((test symbol.value symbol.size && is_spelled word symbol) || later)
named_step test words numbered word number is symbol rest later next None named =
    rw (unnumbered words (spelled symbol.name) word number named is, and_false (test symbol.value symbol.size)) next
named_step test words numbered word number is symbol rest later next (Some one) named =
    rw (same_number words numbered (spelled symbol.name) word one number named is) (ap (λ b. (test symbol.value symbol.size && is_spelled word symbol) || b) next)

pub named_any : (test : Test) (words : Words) → AreNumbered words → (word : List ℕ) (number : ℕ) → number_of words word ≡ Some number → (symbols : List Named)
    → list_any (λ (s : NamedSymbol). test s.value s.size && (s.word == number)) (filter_map (named_by words) symbols)
    ≡ list_any (λ (s : Named). test s.value s.size && is_spelled word s) symbols
named_any test words numbered word number is [] = refl
named_any test words numbered word number is (symbol ∷ symbols) =
    named_step test words numbered word number is symbol (filter_map (named_by words) symbols) _ (named_any test words numbered word number is symbols) (number_of words (spelled symbol.name)) refl

within_step : (words : Words) → AreNumbered words → (symbol : Named) (rest : List NamedSymbol) → AllByRecursion (λ (s : NamedSymbol). s.word < count words) rest → (named : Option ℕ) → number_of words (spelled symbol.name) ≡ named
    → AllByRecursion (λ (s : NamedSymbol). s.word < count words) (cons_option (option_map (λ n. let s : NamedSymbol = record { word = n; value = symbol.value; size = symbol.size } in s) named) rest)
within_step words numbered symbol rest later None named = later
within_step words numbered symbol rest later (Some one) named = (numbered.within (spelled symbol.name) one named, later)

within_each : (words : Words) → AreNumbered words → (symbols : List Named) → AllByRecursion (λ (s : NamedSymbol). s.word < count words) (filter_map (named_by words) symbols)
within_each words numbered [] = tt
within_each words numbered (symbol ∷ symbols) =
    within_step words numbered symbol (filter_map (named_by words) symbols) (within_each words numbered symbols) (number_of words (spelled symbol.name)) refl

pub named_within : (words : Words) → AreNumbered words → (symbols : List Named) (named : List NamedSymbol) → named ≡ filter_map (named_by words) symbols → All (λ (s : NamedSymbol). s.word < count words) named
named_within words numbered symbols named is =
    rw is (All-from_recursion (λ (s : NamedSymbol). s.word < count words) (filter_map (named_by words) symbols) (within_each words numbered symbols))

-- ---- the names at an instruction

any_filter : (keep test : NamedSymbol → Bool) (symbols : List NamedSymbol) → list_any test (filter keep symbols) ≡ list_any (λ s. keep s && test s) symbols
any_filter keep test [] = refl
any_filter keep test (s ∷ symbols) = at (keep s) (any_filter keep test symbols) where
  at : (b : Bool) → list_any test (filter keep symbols) ≡ list_any (λ s. keep s && test s) symbols → list_any test (cond b (s ∷ filter keep symbols) (filter keep symbols)) ≡ ((b && test s) || list_any (λ s. keep s && test s) symbols)
  at true next = ap (λ b. test s || b) next
  at false next = next

told_is : (words : Words) → AreNumbered words → (word : List ℕ) (number : ℕ) → number_of words word ≡ Some number → (told : Option Named)
    → option_map_or (λ given. given == number) (option_and_then (λ (s : Named). number_of words (spelled s.name)) told) false ≡ option_map_or (is_spelled word) told false
told_is words numbered word number is None = refl
told_is words numbered word number is (Some symbol) = at (number_of words (spelled symbol.name)) refl where
  at : (named : Option ℕ) → number_of words (spelled symbol.name) ≡ named → option_map_or (λ given. given == number) named false ≡ is_spelled word symbol
  at None named = sym (unnumbered words (spelled symbol.name) word number named is)
  at (Some one) named = same_number words numbered (spelled symbol.name) word one number named is

pub marks_at : (words : Words) → AreNumbered words → (image : Contents) (address : ℕ) (named holding : List NamedSymbol) (before after : List Bool) (told : Option ℕ)
    → named ≡ filter_map (named_by words) image.symbols → holding ≡ filter (holds address) named → AreMarks holding before → told ≡ told_word words image address → MarksMore told before after → AreMarksAt words image (Some address) after
marks_at words numbered image address named holding before after told named_is holding_is marked told_is_word more word number is =
    let in_name : get_or before number false ≡ is_in_name image word address =
    marked number ∙ ap (list_any (λ s. s.word == number)) holding_is ∙ any_filter (holds address) (λ s. s.word == number) named
    ∙ ap (list_any (λ (s : NamedSymbol). holds address s && (s.word == number))) named_is
    ∙ named_any (λ value size. lies_at value size) words numbered word number is image.symbols in
    let by_told : option_map_or (λ given. given == number) told false ≡ is_told_by_name image word address =
    ap (λ o. option_map_or (λ given. given == number) o false) told_is_word ∙ told_is words numbered word number is (symbol_of image address) in
    more number ∙ ap (λ b. b || option_map_or (λ given. given == number) told false) in_name ∙ ap (λ b. is_in_name image word address || b) by_told
  where
    lies_at : Test
    lies_at value size = nat_le value address && nat_lt address (value + size)

pub no_marks_at : (words : Words) (image : Contents) (marks : List Bool) → AreMarks [] marks → AreMarksAt words image None marks
no_marks_at words image marks marked word number is = marked number

-- ---- functions of source lines

function_by : (words : Words) → AreNumbered words → (word : List ℕ) (number : ℕ) → number_of words word ≡ Some number → (known : Option (List ℕ))
    → option_map_or (λ given. given == number) (option_and_then (λ (f : List ℕ). number_of words (spelled_field f)) known) false ≡ option_map_or (λ (f : List ℕ). bytes_eq (spelled_field f) word) known false
function_by words numbered word number is None = refl
function_by words numbered word number is (Some function) = at (number_of words (spelled_field function)) refl where
  at : (named : Option ℕ) → number_of words (spelled_field function) ≡ named → option_map_or (λ given. given == number) named false ≡ bytes_eq (spelled_field function) word
  at None named = sym (unnumbered words (spelled_field function) word number named is)
  at (Some one) named = same_number words numbered (spelled_field function) word one number named is

pub frames_any : (words : Words) → AreNumbered words → (word : List ℕ) (number : ℕ) → number_of words word ≡ Some number → (frames : List SourceFrame) → list_any (is_word_of words number) frames ≡ list_any (is_function_of word) frames
frames_any words numbered word number is [] = refl
frames_any words numbered word number is (frame ∷ frames) =
    ap (λ (b : Bool). b || list_any (is_word_of words number) frames) (function_by words numbered word number is (known_function frame))
    ∙ ap (λ (b : Bool). is_function_of word frame || b) (frames_any words numbered word number is frames)

pub lines_any : (words : Words) → AreNumbered words → (word : List ℕ) (number : ℕ) → number_of words word ≡ Some number → (lines : List SourceLine)
    → list_any (λ (line : SourceLine). list_any (is_word_of words number) line.frames) lines ≡ list_any (has_function word) lines
lines_any words numbered word number is [] = refl
lines_any words numbered word number is (line ∷ lines) =
    ap (λ (b : Bool). b || list_any (λ (line : SourceLine). list_any (is_word_of words number) line.frames) lines) (frames_any words numbered word number is line.frames)
    ∙ ap (λ (b : Bool). has_function word line || b) (lines_any words numbered word number is lines)

pub instruction_marks : (words : Words) → AreNumbered words → (naming : Naming) (address : ℕ) (before after : List Bool) → AreMarksAt words naming.image (Some address) before → MarksFrames words (frames_at naming.lines address) before after
    → AreInstructionMarks words naming (Some address) after
instruction_marks words numbered naming address before after marked more word number is =
    more number ∙ ap (λ (b : Bool). b || list_any (is_word_of words number) (frames_at naming.lines address)) (marked word number is)
    ∙ ap (λ (b : Bool). is_at_name naming.image word address || b) (frames_any words numbered word number is (frames_at naming.lines address))

-- frames more are marked one by one
pub frames_marked : (words : Words) (frame : SourceFrame) (frames : List SourceFrame) (word : Option ℕ) (before after last : List Bool) → word ≡ function_word words frame → MarksMore word before after → MarksFrames words frames after last → MarksFrames words (frame ∷ frames) before last
frames_marked words frame frames word before after last is one others number =
    others number ∙ ap (λ (b : Bool). b || list_any (is_word_of words number) frames) (one number ∙ ap (λ (w : Option ℕ). get_or before number false || option_map_or (λ given. given == number) w false) is)
    ∙ or_assoc (get_or before number false) (is_word_of words number frame) (list_any (is_word_of words number) frames)

frame_same : (frame f : SourceFrame) → Some frame ≡ Some f → frame ≡ f
frame_same frame f is = cc

no_frame : (frame : SourceFrame) → Some frame ≡ None → ⊥
no_frame frame is = cc

-- the first of some frames, and then the others
pub frames_more : (words : Words) (frames rest : List SourceFrame) (frame : SourceFrame) (word : Option ℕ) (before after last : List Bool) → Some frame ≡ slice_get frames 0 → rest ≡ drop 1 frames → word ≡ function_word words frame → MarksMore word before after
    → MarksFrames words rest after last → MarksFrames words frames before last
frames_more words [] rest frame word before after last is tail word_is one others = absurd (no_frame frame is)
frames_more words (f ∷ frames) rest frame word before after last is tail word_is one others =
    frames_marked words f frames word before after last (word_is ∙ ap (function_word words) (frame_same frame f is)) one (subst (λ (r : List SourceFrame). MarksFrames words r after last) tail others)

or_false : (b : Bool) → (b || false) ≡ b
or_false true = refl
or_false false = refl

any_last : {X : Type 0} (test : X → Bool) (xs : List X) (x : X) → list_any test (xs ++ x ∷ []) ≡ (list_any test xs || test x)
any_last test [] x = or_false (test x)
any_last test (y ∷ xs) x = ap (λ (b : Bool). test y || b) (any_last test xs x) ∙ sym (or_assoc (test y) (list_any test xs) (test x))

-- the frames of a line more are marked
pub lines_more : (words : Words) (lines : List SourceLine) (number : ℕ) (frames : List SourceFrame) (start before after : List Bool) → number < length lines → ((d : SourceLine) → frames ≡ (get_or lines number d).frames)
    → MarksLines words (take number lines) start before → MarksFrames words frames before after → MarksLines words (take (number + 1) lines) start after
lines_more words lines number frames start before after within frames_are so_far more k =
    let line : SourceLine = get_or lines number (record { address = 0; frames = [] }) in
    let has : SourceLine → Bool = λ line. list_any (is_word_of words k) line.frames in
    let last : list_any has (take (number + 1) lines) ≡ (list_any has (take number lines) || has line) = ap (list_any has) (take_more lines number (record { address = 0; frames = [] }) within) ∙ any_last has (take number lines) line in
    more k ∙ ap (λ (b : Bool). b || list_any (is_word_of words k) frames) (so_far k)
    ∙ ap (λ (f : List SourceFrame). (get_or start k false || list_any has (take number lines)) || list_any (is_word_of words k) f) (frames_are (record { address = 0; frames = [] }))
    ∙ or_assoc (get_or start k false) (list_any has (take number lines)) (has line) ∙ ap (λ (b : Bool). get_or start k false || b) (sym last)

some_none : (address : ℕ) → Some address ≡ None → ⊥
some_none address is = cc

-- the marks at an instruction that isn't known
pub marks_without : (words : Words) (naming : Naming) (at : Option ℕ) (marks : List Bool) → at ≡ None → AreMarksAt words naming.image at marks → AreInstructionMarks words naming at marks
marks_without words naming None marks is marked = marked
marks_without words naming (Some address) marks is marked = absurd (some_none address is)

-- the marks at one that is
pub marks_with : (words : Words) → AreNumbered words → (naming : Naming) (at : Option ℕ) (address : ℕ) (frames : List SourceFrame) (before after : List Bool) → at ≡ Some address → frames ≡ frames_at naming.lines address
    → AreMarksAt words naming.image at before → MarksFrames words frames before after → AreInstructionMarks words naming at after
marks_with words numbered naming at address frames before after is frames_are marked more =
    subst (λ (o : Option ℕ). AreInstructionMarks words naming o after) (sym is)
    (instruction_marks words numbered naming address before after (subst (λ (o : Option ℕ). AreMarksAt words naming.image o before) is marked) (subst (λ (f : List SourceFrame). MarksFrames words f before after) frames_are more))

-- ---- a symbol more

pub named_more : (words : Words) (symbols : List Named) (place : ℕ) (symbol : Named) (word : Option ℕ) (before after : List NamedSymbol) → place < length symbols → symbol ≡ get_or symbols place symbol → word ≡ number_of words (spelled symbol.name)
    → before ≡ filter_map (named_by words) (take place symbols) → after ≡ before ++ option_to_list (named symbol word) → after ≡ filter_map (named_by words) (take (place + 1) symbols)
named_more words symbols place symbol word before after within is word_is so_far after_is =
    let taken : take (place + 1) symbols ≡ take place symbols ++ symbol ∷ [] = take_more symbols place symbol within ∙ ap (λ (s : Named). take place symbols ++ s ∷ []) (sym is) in
    after_is ∙ ap (λ (xs : List NamedSymbol). xs ++ option_to_list (named symbol word)) so_far
    ∙ ap (λ (w : Option ℕ). filter_map (named_by words) (take place symbols) ++ option_to_list (named symbol w)) word_is
    ∙ ap (λ (xs : List NamedSymbol). filter_map (named_by words) (take place symbols) ++ xs) (sym (one_named (named_by words symbol)))
    ∙ sym (filter_map-append (named_by words) (take place symbols) (symbol ∷ []))
    ∙ ap (filter_map (named_by words)) (sym taken)
  where
    one_named : (given : Option NamedSymbol) → cons_option given [] ≡ option_to_list given
    one_named None = refl
    one_named (Some s) = refl
