-- Where each line of a source stands, and where each label does.
use Rattle.std.specs.Prelude.{ℕ, ◌+◌, ◌-◌, Bool, ◌&&◌, ◌==◌, nat_le, if◌then◌else◌, List, [], ◌∷◌, length, slice_index, Option, Some, None, option_map, Result, Ok, Err}
use Rattle.std.specs.List.{onto_first, find, filter_map}
use Rattle.std.specs.Str.{bytes_eq}
use Rattle.rv_asm.specs.declared.statement.Section.{Section}
use Rattle.rv_asm.specs.declared.statement.Section.TheVariants.{Text, Data}
use Rattle.rv_asm.specs.declared.statement.AsmKind.{AsmKind}
use Rattle.rv_asm.specs.declared.statement.Statement.{Statement}
use Rattle.rv_asm.specs.declared.passes.place.Place.{Place}
use Rattle.rv_asm.specs.declared.passes.place.PlacedLine.{PlacedLine}
use Rattle.rv_asm.specs.declared.passes.place.Spot.{Spot}
use Rattle.rv_asm.specs.declared.passes.place.Label.{Label}
use Rattle.rv_asm.specs.SourceLine.{line_said}
use Rattle.rv_asm.specs.Size.{size_of, section_after}

-- the lines of a source: an LF (10) ends each of them, together with the CR (13) directly before it, and
-- only the last may lack its LF
unfoldable pub source_lines : List ℕ → List (List ℕ)
source_lines [] = []
source_lines (byte ∷ text) =
    if byte == 10 then [] ∷ source_lines text
    else (if byte == 13 && slice_index text 0 == 10 then source_lines text else onto_first byte (source_lines text))

-- ---- the two sections

-- the address of a section's first byte
abbrev pub start_of : Section → ℕ
start_of Text = 0x1_0000
start_of Data = 0x2_0000

-- how many bytes a section may have
abbrev pub limit_of : Section → ℕ
limit_of Text = 65_536
limit_of Data = 1_048_576

-- how many bytes a section has before the place
abbrev pub bytes_before : Section → Place → ℕ
bytes_before Text place = place.text_size
bytes_before Data place = place.data_size

-- the address of the place, in its section
abbrev pub address_of : Place → ℕ
address_of place = start_of place.section + bytes_before place.section place

-- a source begins in `.text`, with both sections empty and 67,108,864 bytes for labels
abbrev pub first_place : Place
first_place = record { lines_before = 0; section = Text; text_size = 0; data_size = 0; label_room = 67_108_864 }

-- ---- one line after another

-- the statement doesn't pass the limit of the place's section
abbrev pub has_room : Place → Statement → Bool
has_room place statement = nat_le (bytes_before place.section place + size_of statement) (limit_of place.section)

abbrev pub if_room : Place → Option Statement → Option Statement
if_room place None = None
if_room place (Some statement) = if has_room place statement then Some statement else None

-- the statement that stands at the place: none where the line has none or a faulty one, or where it
-- would pass its section's limit
abbrev pub standing : Place → Result (Option Statement) AsmKind → Option Statement
standing place (Ok statement) = if_room place statement
standing place (Err kind) = None

-- so many bytes more in a section
abbrev pub grown : Section → ℕ → Place → Place
grown Text size place = record place { text_size = place.text_size + size }
grown Data size place = record place { data_size = place.data_size + size }

-- the place after a statement, which takes its bytes in the present section, and may switch to another
abbrev pub after_statement : Place → Option Statement → Place
after_statement place None = place
after_statement place (Some statement) =
    record (grown place.section (size_of statement) place) { section = section_after statement place.section }

-- how many bytes a label needs: 17, and its name
abbrev pub label_size : Option (List ℕ) → ℕ
label_size None = 0
label_size (Some name) = 17 + length name

-- the place of the next line
unfoldable pub next_place : PlacedLine → Place
next_place p =
    record (after_statement p.place (standing p.place p.line.statement)) { lines_before = p.place.lines_before + 1; label_room = p.place.label_room - label_size p.line.label }

-- what a text says at a place
unfoldable pub line_at : Place → List ℕ → PlacedLine
line_at place text = record { place = place; line = line_said place.section text }

-- each line with its place, where the first stands at this one
unfoldable pub placed : Place → List (List ℕ) → List PlacedLine
placed place [] = []
placed place (text ∷ texts) = line_at place text ∷ placed (next_place (line_at place text)) texts

-- the lines of a source, each at its place
abbrev pub lines_placed : List ℕ → List PlacedLine
lines_placed source = placed first_place (source_lines source)

-- ---- the labels

-- where a label at the place stands: its address is that at which the line's statement begins
abbrev pub spot_at : Place → Spot
spot_at place = record { lines_before = place.lines_before; section = place.section; address = address_of place }

abbrev pub label_at : PlacedLine → Option Label
label_at p = option_map (λ name. record { name = name; spot = spot_at p.place }) p.line.label

-- the labels, in the order of their lines
unfoldable pub labels_of : List PlacedLine → List Label
labels_of lines = filter_map label_at lines

-- where the first label of that name stands
unfoldable pub spot_of : List Label → List ℕ → Option Spot
spot_of labels name = option_map (λ label. label.spot) (find (λ label. bytes_eq name label.name) labels)
