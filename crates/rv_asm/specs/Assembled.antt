-- The image that a source describes, or its first fault.
use Rattle.std.specs.Prelude.{ℕ, ◌+◌, ◌-◌, Bool, true, false, not, ◌&&◌, ◌==◌, nat_lt, nat_le, if◌then◌else◌, min, List, [], ◌∷◌, length, codes, Option, Some, None, Result, Ok, Err}
use Rattle.std.specs.List.{flat_map}
use Rattle.std.specs.Option.{option_or, option_map_or}
use Rattle.rv_memory.specs.Extent.{Extent}
use Rattle.rv_elf.specs.Contents.{Contents, Named, contents}
use Rattle.rv_memory.specs.Chain.{◌>>=◌, want}
use Rattle.rv_asm.specs.Layout.{address_of, has_room, label_size, lines_placed, labels_of, spot_of}
use Rattle.rv_asm.specs.Bytes.{bytes_of}
use Rattle.rv_asm.specs.declared.fault.AsmFault.{AsmFault}
use Rattle.rv_asm.specs.declared.passes.place.Place.{Place}
use Rattle.rv_asm.specs.declared.passes.place.PlacedLine.{PlacedLine}
use Rattle.rv_asm.specs.declared.passes.place.Label.{Label}
use Rattle.rv_asm.specs.declared.passes.place.Spot.{Spot}
use Rattle.rv_asm.specs.declared.statement.AsmKind.{AsmKind}
use Rattle.rv_asm.specs.declared.statement.AsmKind.TheVariants.{LabelTwice, TooLarge, Empty, NoMemory}
use Rattle.rv_asm.specs.declared.statement.Section.{Section}
use Rattle.rv_asm.specs.declared.statement.Section.TheVariants.{Text, Data}
use Rattle.rv_asm.specs.declared.statement.Statement.{Statement}

-- ---- one line

-- the first label of that name stands on an earlier line
abbrev pub is_taken : List Label → ℕ → Option (List ℕ) → Bool
is_taken labels lines_before None = false
is_taken labels lines_before (Some name) = option_map_or (λ spot. nat_lt spot.lines_before lines_before) (spot_of labels name) false

-- the line's label and statement pass no limit
abbrev pub is_within : Place → Option (List ℕ) → Option Statement → Bool
is_within place label statement = nat_le (label_size label) place.label_room && option_map_or (has_room place) statement true

-- the bytes of a line, or its first fault: a label that is taken, the statement's own fault, a label that is
-- unknown or a target too far away, a limit that is passed
unfoldable pub line_bytes : List Label → PlacedLine → Result (List ℕ) AsmKind
line_bytes labels p = do
  _ ← want (not (is_taken labels p.place.lines_before p.line.label)) LabelTwice
  statement ← p.line.statement
  bytes ← bytes_of labels (address_of p.place) statement
  _ ← want (is_within p.place p.line.label statement) TooLarge
  Ok bytes

-- ---- all lines

abbrev pub fault_at : ℕ → Result (List ℕ) AsmKind → Option AsmFault
fault_at number (Ok bytes) = None
fault_at number (Err kind) = Some (record { line = number; kind = kind })

-- the fault of the first line that has one; lines count from 1
unfoldable pub first_fault : List Label → List PlacedLine → Option AsmFault
first_fault labels [] = None
first_fault labels (p ∷ lines) = option_or (fault_at (p.place.lines_before + 1) (line_bytes labels p)) (first_fault labels lines)

abbrev pub if_in : Section → Section → Result (List ℕ) AsmKind → List ℕ
if_in Text Text (Ok bytes) = bytes
if_in Data Data (Ok bytes) = bytes
if_in _ _ _ = []

-- the bytes of a section, line by line
unfoldable pub section_bytes : Section → List Label → List PlacedLine → List ℕ
section_bytes section labels lines = flat_map (λ p. if_in section p.place.section (line_bytes labels p)) lines

-- ---- the image

abbrev pub text_segment : List ℕ → Extent
text_segment bytes = record { start = 0x1_0000; bytes = bytes; len = length bytes; r = true; w = false; x = true }

abbrev pub data_segment : List ℕ → Extent
data_segment bytes = record { start = 0x2_0000; bytes = bytes; len = length bytes; r = true; w = true; x = false }

-- no segment has no bytes
abbrev pub data_segments : List ℕ → List Extent
data_segments bytes = if length bytes == 0 then [] else data_segment bytes ∷ []

-- a label in `.text` before its end
abbrev pub entry_in : ℕ → Section → ℕ → ℕ
entry_in end Text address = if nat_lt address end then address else 0x1_0000
entry_in end Data address = 0x1_0000

-- `_start` where it stands in `.text` before its end
abbrev pub entry_at : ℕ → Option Spot → ℕ
entry_at end None = 0x1_0000
entry_at end (Some spot) = entry_in end spot.section spot.address

-- 2 is a function and 1 an object
abbrev pub kind_in : Section → ℕ
kind_in Text = 2
kind_in Data = 1

abbrev pub is_same : Section → Section → Bool
is_same Text Text = true
is_same Data Data = true
is_same _ _ = false

-- the least address above this one of a label in the section, or else the section's end
unfoldable pub next_address : Section → ℕ → ℕ → List Label → ℕ
next_address section address end [] = end
next_address section address end (label ∷ labels) =
    if is_same section label.spot.section && nat_lt address label.spot.address then min label.spot.address (next_address section address end labels)
    else next_address section address end labels

-- where the sections end
pub record Ends : Type 0 where
  pub text : ℕ
  pub datas : ℕ

abbrev pub end_in : Ends → Section → ℕ
end_in ends Text = ends.text
end_in ends Data = ends.datas

-- the symbol of a label, which runs up to the next one of the section
abbrev pub symbol_of : Ends → List Label → Label → Named
symbol_of ends labels label = record {
  name = label.name;
  value = label.spot.address;
  size = next_address label.spot.section label.spot.address (end_in ends label.spot.section) labels - label.spot.address;
  kind = kind_in label.spot.section;
}

-- a symbol for each label, in their order; the labels of a section ascend, so the next one is a later one
unfoldable pub symbols_of : Ends → List Label → List Named
symbols_of ends [] = []
symbols_of ends (label ∷ labels) = symbol_of ends labels label ∷ symbols_of ends labels

-- where both sections end
abbrev pub ends_of : List ℕ → List ℕ → Ends
ends_of text datas = record { text = 0x1_0000 + length text; datas = 0x2_0000 + length datas }

abbrev pub entry_of : List Label → List ℕ → ℕ
entry_of labels text = entry_at (0x1_0000 + length text) (spot_of labels (codes "_start"))

unfoldable pub image_of : List Label → List ℕ → List ℕ → Contents
image_of labels text datas =
    contents (entry_of labels text) (text_segment text ∷ data_segments datas) (symbols_of (ends_of text datas) labels)

-- an image has a word in `.text`; that it has none is told of line 0
abbrev pub image_or_empty : List Label → List ℕ → List ℕ → Result Contents AsmFault
image_or_empty labels text datas =
    if length text == 0 then Err (record { line = 0; kind = Empty }) else Ok (image_of labels text datas)

abbrev pub image_unless : Option AsmFault → Result Contents AsmFault → Result Contents AsmFault
image_unless (Some fault) image = Err fault
image_unless None image = image

abbrev pub assembled_lines : List Label → List PlacedLine → Result Contents AsmFault
assembled_lines labels lines =
    image_unless (first_fault labels lines) (image_or_empty labels (section_bytes Text labels lines) (section_bytes Data labels lines))

-- what a source describes
unfoldable pub assembled : List ℕ → Result Contents AsmFault
assembled source = assembled_lines (labels_of (lines_placed source)) (lines_placed source)

-- what may be told in place of either, where a growth was refused
abbrev pub no_memory : AsmFault
no_memory = record { line = 0; kind = NoMemory }
