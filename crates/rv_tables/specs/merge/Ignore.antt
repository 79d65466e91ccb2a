-- Races that are to be ignored: what a list of them says, and which races it fits.
use Rattle.std.specs.Prelude.{ℕ, ◌+◌, ◌-◌, Bool, true, false, not, ◌&&◌, ◌||◌, ◌==◌, nat_le, nat_lt, if◌then◌else◌, Option, Some, None, option_map, is_some, Result, Ok, Err, List, [], ◌∷◌, ◌++◌, length, codes, filter, slice_get, take}
use Rattle.std.specs.List.{list_any, take_while}
use Rattle.std.specs.Option.{option_map_or}
use Rattle.std.specs.Str.{bytes_eq}
use Rattle.rv_elf.specs.Contents.{Contents, Named}
use Rattle.rv_symbols.specs.Escaped.{escaped, escaped_field}
use Rattle.rv_symbols.specs.Naming.{Naming, by_symbols}
use Rattle.rv_symbols.specs.Symbols.{symbol_of}
use Rattle.rv_memory.specs.Chain.{◌>>=◌, want}
use Rattle.rv_faults.specs.Fault.{unless_long}
use Rattle.rv_tables.specs.merge.FileFault.{plainly, told_ignore}
use Rattle.rv_lines.specs.SourceLines.{SourceFrame, SourceLine, frames_at, known_function}
use Rattle.rv_tables.specs.declared.merge.fault.FileFault.{FileFault}
use Rattle.rv_tables.specs.declared.merge.fault.FileFault.TheVariants as fault
use Rattle.rv_tables.specs.declared.merge.fault.IgnoreFault.{IgnoreFault}
use Rattle.rv_tables.specs.declared.merge.fault.IgnoreKind.{IgnoreKind}
use Rattle.rv_tables.specs.declared.merge.fault.IgnoreKind.TheVariants.{Shape, Unknown}
use Rattle.rv_tables.specs.declared.merge.ignore.Line.{Line}
use Rattle.rv_tables.specs.declared.merge.ignore.Side.{Side}
use Rattle.rv_tables.specs.declared.merge.ignore.TheConstants.{LONGEST_WORD}
use Rattle.rv_tables.specs.declared.merge.ignore.Side.TheVariants.{Any, Address, Name}
use Rattle.rv_tables.specs.declared.row.RaceRow.{RaceRow}
use Rattle.rv_report.specs.declared.key.Key.{Key}
use Rattle.rv_text.specs.Hexadecimal.{byte_digits, word_of}
use Rattle.rv_text.specs.Pieces.{pieces_of}

-- an image, and source lines, where they are given
abbrev pub lines_of : Option (List SourceLine) → List SourceLine
lines_of None = []
lines_of (Some lines) = lines

abbrev pub naming_of : Contents → Option (List SourceLine) → Naming
naming_of image source = record { image = image; lines = lines_of source }

-- ---- a name

-- a `#` (35) begins a comment where it begins a word
abbrev pub begins_comment : List ℕ → Bool
begins_comment word = option_map_or (λ byte. byte == 35) (slice_get word 0) false

-- the word says something else than a name: it begins a comment, it means any instruction, or it is an address
abbrev pub says_other : List ℕ → Bool
says_other word = begins_comment word || bytes_eq word (codes "*") || is_some (word_of word)

-- the first byte is `\xNN`
abbrev pub first_escaped : List ℕ → List ℕ
first_escaped [] = []
first_escaped (byte ∷ rest) = codes "\\x" ++ (byte_digits byte ++ rest)

abbrev pub as_name : List ℕ → List ℕ
as_name word = if says_other word then first_escaped word else word

-- A name as a list has it: as `explain` shows it, but that the first byte of one that would say something else is `\xNN`.
unfoldable pub spelled : List ℕ → List ℕ
spelled name = as_name (escaped name)

-- the word is the symbol's name
abbrev pub is_spelled : List ℕ → Named → Bool
is_spelled word symbol = bytes_eq (spelled symbol.name) word

-- A function of a source line as a list has it: its file has backslashes escaped already.
unfoldable pub spelled_field : List ℕ → List ℕ
spelled_field function = as_name (escaped_field function)

-- the word is the frame's function
abbrev pub is_function_of : List ℕ → SourceFrame → Bool
is_function_of word frame = option_map_or (λ function. bytes_eq (spelled_field function) word) (known_function frame) false

abbrev pub has_function : List ℕ → SourceLine → Bool
has_function word line = list_any (is_function_of word) line.frames

-- a symbol of the image has the name, or a source line has it as a function
abbrev pub has_name : Naming → List ℕ → Bool
has_name naming word = list_any (is_spelled word) naming.image.symbols || list_any (has_function word) naming.lines

abbrev pub is_known : Naming → Side → Bool
is_known naming Any = true
is_known naming (Address address) = true
is_known naming (Name word) = has_name naming word

-- ---- a line

abbrev pub has_bytes : List ℕ → Bool
has_bytes word = nat_lt 0 (length word)

abbrev pub ends_in_return : List ℕ → Bool
ends_in_return line = option_map_or (λ byte. byte == 13) (slice_get line (length line - 1)) false

-- a CR (13) right before its LF is no part of a line
abbrev pub without_return : List ℕ → List ℕ
without_return line = if ends_in_return line then take (length line - 1) line else line

-- the words of these pieces up to the comment
abbrev pub said_words : List (List ℕ) → List (List ℕ)
said_words pieces = take_while (λ word. not (begins_comment word)) (filter has_bytes pieces)

-- the words of a line up to its comment; blanks (32) stand between them
abbrev pub words_of : List ℕ → List (List ℕ)
words_of line = said_words (pieces_of 32 (without_return line))

-- what has eight hexadecimal digits is an address
abbrev pub side_of : List ℕ → Side
side_of word = if bytes_eq word (codes "*") then Any else option_map_or Address (word_of word) (Name word)

-- a word is as long as it may be, or shorter
abbrev pub is_short : List ℕ → Bool
is_short word = nat_le (length word) LONGEST_WORD

-- the words of a line that say something: those of its two sides, and that of the data
pub record Said : Type 0 where
  pub one : List ℕ
  pub other : List ℕ
  pub on : List ℕ

abbrev pub are_short : Said → Bool
are_short said = is_short said.one && is_short said.other && is_short said.on

abbrev pub said_if : Bool → Said → Result (Option Said) IgnoreKind
said_if true said = Ok (Some said)
said_if false said = Err Shape

-- `A B`, or `A B on DATA`: without it the data may be any
abbrev pub words_in : List (List ℕ) → Result (Option Said) IgnoreKind
words_in [] = Ok None
words_in (word ∷ []) = Err Shape
words_in (one ∷ other ∷ []) = let said : Said = record { one = one; other = other; on = codes "*" } in said_if (are_short said) said
words_in (one ∷ other ∷ word ∷ []) = Err Shape
words_in (one ∷ other ∷ word ∷ place ∷ []) = let said : Said = record { one = one; other = other; on = place } in said_if (bytes_eq word (codes "on") && are_short said) said
words_in (one ∷ other ∷ word ∷ place ∷ next ∷ words) = Err Shape

abbrev pub sides_of : Said → Line
sides_of said = record { one = side_of said.one; other = side_of said.other; on = side_of said.on }

abbrev pub are_known : Naming → Line → Bool
are_known naming line = is_known naming line.one && is_known naming line.other && is_known naming line.on

-- What a line says: its shape is tested first. The test is whether its names are known.
unfoldable pub line_of : (Line → Bool) → List ℕ → Result (Option Line) IgnoreKind
line_of known text = do
  said ← words_in (words_of text)
  _ ← want (option_map_or (λ words. known (sides_of words)) said true) Unknown
  Ok (option_map sides_of said)

-- a line has a name that no symbol of the image and no source line has
abbrev pub has_unknown : Naming → List Line → Bool
has_unknown naming lines = list_any (λ line. not (are_known naming line)) lines

-- ---- the lines

-- a fault of the line of that number
abbrev pub at_line : {A : Type 0} → ℕ → Result A IgnoreKind → Result A IgnoreFault
at_line number (Ok value) = Ok value
at_line number (Err kind) = Err (record { line = number; kind = kind })

abbrev pub listed : Option Line → List Line
listed None = []
listed (Some line) = line ∷ []

-- what lines say, the first of which has this number, or the first of them with a fault
unfoldable pub lines_from : (Line → Bool) → ℕ → List (List ℕ) → Result (List Line) IgnoreFault
lines_from known number [] = Ok []
lines_from known number (text ∷ later) = do
  said ← at_line number (line_of known text)
  lines ← lines_from known (number + 1) later
  Ok (listed said ++ lines)

-- what a file says, or why its bytes are refused: they are too many, and else the first line with a fault
unfoldable pub ignores_of : Naming → List ℕ → Result (List Line) FileFault
ignores_of naming bytes = do
  text ← plainly (unless_long bytes)
  told_ignore (lines_from (are_known naming) 1 (pieces_of 10 text))

-- ---- what is aimed at

-- two sides, of any data
abbrev pub aimed_at : List ℕ × List ℕ → Said
aimed_at pair = record { one = pair.0; other = pair.1; on = codes "*" }

-- the line that two sides are, or why they are refused, by the symbols alone; none is, where nothing is aimed at
abbrev pub aimed_in : Contents → Option (List ℕ × List ℕ) → Result (List Line) FileFault
aimed_in image None = Ok []
aimed_in image (Some pair) = if are_known (by_symbols image) (sides_of (aimed_at pair)) then Ok (sides_of (aimed_at pair) ∷ []) else Err fault.Aim

-- ---- which race a line fits

abbrev pub lies_in : ℕ → Named → Bool
lies_in address symbol = nat_le symbol.value address && nat_lt address (symbol.value + symbol.size)

-- the instruction lies in a symbol of the name
abbrev pub is_in_name : Contents → List ℕ → ℕ → Bool
is_in_name image word address = list_any (λ (symbol : Named). lies_in address symbol && is_spelled word symbol) image.symbols

-- `explain` tells the instruction by a symbol of the name
abbrev pub is_told_by_name : Contents → List ℕ → ℕ → Bool
is_told_by_name image word address = option_map_or (is_spelled word) (symbol_of image address) false

abbrev pub is_at_name : Contents → List ℕ → ℕ → Bool
is_at_name image word address = is_in_name image word address || is_told_by_name image word address

-- one of the instruction's frames is of the function
abbrev pub is_in_function : Naming → List ℕ → ℕ → Bool
is_in_function naming word address = list_any (is_function_of word) (frames_at naming.lines address)

-- the name is one of the instruction's, by the symbols or by the source lines
abbrev pub is_named : Naming → List ℕ → ℕ → Bool
is_named naming word address = is_at_name naming.image word address || is_in_function naming word address

-- The side fits an address, of which a test says whether a name is one of it. One that isn't known may be any: only `*` fits it.
abbrev pub fits_at : (List ℕ → ℕ → Bool) → Side → Option ℕ → Bool
fits_at test Any at = true
fits_at test (Address address) at = option_map_or (λ given. given == address) at false
fits_at test (Name word) at = option_map_or (test word) at false

-- the side fits an instruction
abbrev pub fits_side : Naming → Side → Option ℕ → Bool
fits_side naming side instruction = fits_at (is_named naming) side instruction

-- the side fits a place in data, which has no source line
abbrev pub fits_data : Naming → Side → Option ℕ → Bool
fits_data naming side place = fits_at (is_at_name naming.image) side place

-- the line's sides fit the race's instructions, in either order
abbrev pub fits_sides : Naming → Key → Line → Bool
fits_sides naming key line =
    (fits_side naming line.one (Some key.first) && fits_side naming line.other key.second) || (fits_side naming line.one key.second && fits_side naming line.other (Some key.first))

-- The line fits a race of this data: its sides do, and so does what it says of the data.
abbrev pub fits : Naming → Key → Option ℕ → Line → Bool
fits naming key on line = fits_sides naming key line && fits_data naming line.on on

abbrev pub any_fits : Naming → List Line → Key → Option ℕ → Bool
any_fits naming lines key on = list_any (fits naming key on) lines

-- One of the lines fits the race. Its data is that of the report that it is shown by.
abbrev pub is_ignored : Naming → List Line → Key × RaceRow → Bool
is_ignored naming lines race = any_fits naming lines race.0 race.1.address

-- none of the lines fits the race
abbrev pub is_told : Naming → List Line → Key × RaceRow → Bool
is_told naming lines race = not (is_ignored naming lines race)
