-- What a hunt table says that may end with a line of what it is of.
use Rattle.std.specs.Prelude.{ℕ, ◌+◌, if◌then◌else◌, is_some, Option, Some, None, option_map, Result, Ok, Err, List, [], ◌∷◌, codes, drop, length, take}
use Rattle.std.specs.Option.{ok_or, option_map_or}
use Rattle.memchr.specs.Find.{first_of, matches}
use Rattle.rv_collide.specs.ScheduleRead.{is_over, words_of}
use Rattle.rv_tables.specs.HuntRead.{at_line, read, read_either}
use Rattle.rv_tables.specs.Origin.{Origin, origin_in}
use Rattle.rv_tables.specs.declared.fault.TableFault.{TableFault}
use Rattle.rv_tables.specs.declared.fault.TableKind.TheVariants as kind
use Rattle.rv_tables.specs.declared.format.TableFormat.TheVariants.{Hunt}
use Rattle.rv_tables.specs.declared.origin_line.ReadTable.{ReadTable}
use Rattle.rv_tables.specs.declared.row.RaceRow.{RaceRow}
use Rattle.rv_memory.specs.Chain.{◌>>=◌}
use Rattle.rv_report.specs.declared.key.Key.{Key}
use Rattle.rv_text.specs.Pieces.{pieces_of}

-- the place of the LF (10) before the first line that begins with `of `
abbrev pub origin_at : List ℕ → Option ℕ
origin_at text = first_of (matches text (10 ∷ codes "of ") 0)

-- the text before that line, and the text from it on
abbrev pub rows_text : List ℕ → List ℕ
rows_text text = option_map_or (λ place. take (place + 1) text) (origin_at text) text

abbrev pub last_text : List ℕ → Option (List ℕ)
last_text text = option_map (λ place. drop (place + 1) text) (origin_at text)

-- a text cut at its LFs
abbrev pub lines_of : List ℕ → List (List ℕ)
lines_of text = pieces_of 10 text

-- what the line says that has this number, where an LF and nothing else follows it
unfoldable pub origin_of_lines : ℕ → List (List ℕ) → Result Origin TableFault
origin_of_lines number (line ∷ next ∷ lines) = do
  origin ← at_line number (ok_or (origin_in (words_of line)) kind.Shape)
  at_line (number + 1) (if is_over (next ∷ lines) then Ok origin else Err kind.End)
origin_of_lines number lines = at_line number (Err kind.End)

abbrev pub origin_behind : ℕ → Option (List ℕ) → Result (Option Origin) TableFault
origin_behind number None = Ok None
origin_behind number (Some text) = origin_of_lines number (lines_of text) >>= λ origin. Ok (Some origin)

-- the rows of a hunt table, and what it is of, where it says that
unfoldable pub read_hunt : List ℕ → Result ReadTable TableFault
read_hunt text = do
  rows ← read Hunt (rows_text text)
  origin ← origin_behind (length rows + 2) (last_text text)
  Ok (record { rows = rows; origin = origin })

-- the rows of such a table, or of one without the line, of `hunt` or `run`
unfoldable pub read_rows : List ℕ → Result (List (Key × RaceRow)) TableFault
read_rows text = if is_some (origin_at text) then (read_hunt text >>= λ table. Ok table.rows) else read_either text

-- ---- what only private contracts cite

-- a word and those behind it; none where there is no word
abbrev pub onto : Option (List ℕ) → List (List ℕ) → List (List ℕ)
onto None words = []
onto (Some word) words = word ∷ words
