-- The words of an ignore list by numbers, and the symbols that have them for names.
use Rattle.std.specs.Prelude.{◌≡◌, ℕ, ◌+◌, ◌<◌, ◌≤◌, Bool, false, ◌&&◌, ◌||◌, ◌==◌, nat_le, nat_lt, Option, Some, option_map, List, length, get_or}
use Rattle.std.specs.BTreeMap.{get_by, btree_map_len}
use Rattle.std.specs.Cmp.Lexicographic.{slice_cmp}
use Rattle.std.specs.List.{list_any}
use Rattle.std.specs.Option.{option_and_then, option_map_or}
use Rattle.std.specs.Ordering.{nat_cmp}
use Rattle.rv_elf.specs.Contents.{Contents, Named}
use Rattle.rv_symbols.specs.Symbols.{symbol_of}
use Rattle.rv_tables.specs.declared.merge.words.NamedSymbol.{NamedSymbol}
use Rattle.rv_tables.specs.declared.merge.words.Words.{Words}
use Rattle.rv_symbols.specs.Naming.{Naming}
use Rattle.rv_tables.specs.merge.Ignore.{is_at_name, is_named, spelled, spelled_field}
use Rattle.rv_lines.specs.SourceLines.{SourceFrame, SourceLine, known_function}

abbrev pub number_of : Words → List ℕ → Option ℕ
number_of words word = get_by (λ key. slice_cmp nat_cmp word key.now) words.numbers

abbrev pub count : Words → ℕ
count words = btree_map_len words.numbers

-- each number is below how many words there are, and that of one word, which is no longer than the longest
pub record AreNumbered (words : Words) : Type 0 where
  pub within : (word : List ℕ) (number : ℕ) → number_of words word ≡ Some number → number < count words
  pub apart : (one other : List ℕ) (number : ℕ) → number_of words one ≡ Some number → number_of words other ≡ Some number → one ≡ other
  pub short : (word : List ℕ) (number : ℕ) → number_of words word ≡ Some number → length word ≤ words.longest

-- what has a number keeps it
abbrev pub Keeps : Words → Words → Type 0
Keeps old new = (word : List ℕ) (number : ℕ) → number_of old word ≡ Some number → number_of new word ≡ Some number

abbrev pub named : Named → Option ℕ → Option NamedSymbol
named symbol word = option_map (λ number. record { word = number; value = symbol.value; size = symbol.size }) word

abbrev pub named_by : Words → Named → Option NamedSymbol
named_by words symbol = named symbol (number_of words (spelled symbol.name))

abbrev pub holds : ℕ → NamedSymbol → Bool
holds address symbol = nat_le symbol.value address && nat_lt address (symbol.value + symbol.size)

-- the names of these symbols are marked
abbrev pub AreMarks : List NamedSymbol → List Bool → Type 0
AreMarks symbols marks = (number : ℕ) → get_or marks number false ≡ list_any (λ symbol. symbol.word == number) symbols

abbrev pub told_word : Words → Contents → ℕ → Option ℕ
told_word words image address = option_and_then (λ symbol. number_of words (spelled symbol.name)) (symbol_of image address)

-- one more is marked, where there is one
abbrev pub MarksMore : Option ℕ → List Bool → List Bool → Type 0
MarksMore word old new = (number : ℕ) → get_or new number false ≡ (get_or old number false || option_map_or (λ given. given == number) word false)

-- the names at an instruction are marked
abbrev pub AreMarksAt : Words → Contents → Option ℕ → List Bool → Type 0
AreMarksAt words image at marks =
    (word : List ℕ) (number : ℕ) → number_of words word ≡ Some number → get_or marks number false ≡ option_map_or (is_at_name image word) at false

-- ---- functions of source lines

abbrev pub function_word : Words → SourceFrame → Option ℕ
function_word words frame = option_and_then (λ function. number_of words (spelled_field function)) (known_function frame)

-- the word of that number is the frame's function
abbrev pub is_word_of : Words → ℕ → SourceFrame → Bool
is_word_of words number frame = option_map_or (λ given. given == number) (function_word words frame) false

-- those that are functions of frames are marked too
abbrev pub MarksFrames : Words → List SourceFrame → List Bool → List Bool → Type 0
MarksFrames words frames old new = (number : ℕ) → get_or new number false ≡ (get_or old number false || list_any (is_word_of words number) frames)

-- the same of all frames of lines
abbrev pub MarksLines : Words → List SourceLine → List Bool → List Bool → Type 0
MarksLines words lines old new =
    (number : ℕ) → get_or new number false ≡ (get_or old number false || list_any (λ line. list_any (is_word_of words number) line.frames) lines)

-- the names at an instruction are marked, by the symbols and by the source lines
abbrev pub AreInstructionMarks : Words → Naming → Option ℕ → List Bool → Type 0
AreInstructionMarks words naming at marks =
    (word : List ℕ) (number : ℕ) → number_of words word ≡ Some number → get_or marks number false ≡ option_map_or (is_named naming word) at false
