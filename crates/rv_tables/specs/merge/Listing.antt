-- The list of a hunt's races, as a list of races to be ignored, or of those that are expected, has it.
use Rattle.std.specs.Prelude.{ℕ, Bool, ◌&&◌, ◌==◌, if◌then◌else◌, Option, Some, None, option_and_then, List, [], ◌++◌, codes, map, slice_get}
use Rattle.std.specs.Fmt.{decimal}
use Rattle.std.specs.Option.{option_map_or, unwrap_or}
use Rattle.rv_elf.specs.Contents.{Contents, Named}
use Rattle.rv_races.specs.Classes.{class_word}
use Rattle.rv_symbols.specs.Naming.{Naming}
use Rattle.rv_symbols.specs.Symbols.{symbol_of}
use Rattle.rv_tables.specs.merge.Ignore.{has_bytes, is_short, spelled, spelled_field}
use Rattle.rv_tables.specs.declared.row.RaceRow.{RaceRow}
use Rattle.rv_lines.specs.SourceLines.{SourceLine, frames_at, known_function}
use Rattle.rv_report.specs.declared.key.Key.{Key}
use Rattle.rv_text.specs.Hexadecimal.{word_digits}
use Rattle.rv_text.specs.Lines.{text_of_lines}

-- a line can have the word
abbrev pub is_word : List ℕ → Bool
is_word word = has_bytes word && is_short word

abbrev pub word_if : List ℕ → Option (List ℕ)
word_if word = if is_word word then Some word else None

-- the name by which `explain` tells an address, where a line can have it
abbrev pub name_at : Contents → ℕ → Option (List ℕ)
name_at image address = option_and_then (λ (symbol : Named). word_if (spelled symbol.name)) (symbol_of image address)

-- the function of an instruction's innermost frame, where it is known and a line can have it
abbrev pub function_at : List SourceLine → ℕ → Option (List ℕ)
function_at lines address =
    option_and_then (λ frame. option_and_then (λ function. word_if (spelled_field function)) (known_function frame)) (slice_get (frames_at lines address) 0)

-- an instruction by its function, as the source lines have it or else the symbols, or else by its address
abbrev pub side_text : Naming → ℕ → List ℕ
side_text naming address = unwrap_or (function_at naming.lines address) (unwrap_or (name_at naming.image address) (word_digits address))

-- the same of one that may not be known
abbrev pub other_text : Naming → Option ℕ → List ℕ
other_text naming None = codes "*"
other_text naming (Some address) = side_text naming address

-- the variable, where it has a name
abbrev pub on_text : Contents → Option ℕ → List ℕ
on_text image address = option_map_or (λ name. codes " on " ++ name) (option_and_then (name_at image) address) []

abbrev pub reports_word : ℕ → List ℕ
reports_word count = if count == 1 then codes " report" else codes " reports"

-- `# CLASS, N reports`
abbrev pub comment_text : RaceRow → List ℕ
comment_text row = codes " # " ++ (class_word row.class ++ (codes ", " ++ (decimal row.count ++ reports_word row.count)))

-- `A B on VARIABLE # CLASS, N reports`
unfoldable pub list_line : Naming → Key × RaceRow → List ℕ
list_line naming race =
    side_text naming race.0.first ++ (codes " " ++ (other_text naming race.0.second ++ (on_text naming.image race.1.address ++ comment_text race.1)))

-- a line of each race of a table
unfoldable pub list_text : Naming → List (Key × RaceRow) → List ℕ
list_text naming races = text_of_lines (map (list_line naming) races)
