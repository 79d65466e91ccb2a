-- What holds of lines, sources and images: each word's line is read back; each statement's bytes stand at its
-- address; where a symbol ends.
use Rattle.std.specs.Prelude.{◌≡◌, ℕ, ◌^◌, ◌<◌, None, Some, Ok, List, map, length, take, drop}
use Rattle.std.specs.List.{AllByRecursion}
use Rattle.rv_isa.specs.Decoded.{decoded}
use Rattle.rv_isa.specs.Encoded.{encoded}
use Rattle.rv_isa.specs.declared.instr.Instr.{Instr}
use Rattle.rv_asm.specs.Alone.{word_said}
use Rattle.rv_asm.specs.Assembled.{ends_of, first_fault, line_bytes, section_bytes, symbol_of, symbols_of}
use Rattle.rv_asm.specs.Layout.{bytes_before, labels_of, lines_placed}
use Rattle.rv_asm.specs.Line.{line}
use Rattle.rv_asm.specs.declared.passes.place.Label.{Label}
use Rattle.rv_asm.specs.declared.passes.place.PlacedLine.{PlacedLine}
use Rattle.rv_asm.specs.declared.statement.Section.TheVariants.{Text, Data}

-- every word's line, at every address, is read as the word
abbrev pub EveryWordIsReadBack : Type 0
EveryWordIsReadBack = (word address : ℕ) → word < 2 ^ 32 → address < 2 ^ 32 → word_said (line word address) address ≡ Ok word

-- a line's bytes are what its section has from the line's place on
abbrev pub Stands : List Label → List PlacedLine → PlacedLine → Type 0
Stands labels lines p = (bytes : List ℕ) → line_bytes labels p ≡ Ok bytes
    → take (length bytes) (drop (bytes_before p.place.section p.place) (section_bytes p.place.section labels lines)) ≡ bytes

-- in a source without a fault the bytes of each line, in which each label is its address, stand at the line's
-- own address: its section's first one, and as many more as its section has bytes before it
abbrev pub EachLineStands : Type 0
EachLineStands = (source : List ℕ) → first_fault (labels_of (lines_placed source)) (lines_placed source) ≡ None
    → AllByRecursion (Stands (labels_of (lines_placed source)) (lines_placed source)) (lines_placed source)

-- each symbol ends where the least label above it stands, among all the labels of its section, or else where
-- the section ends
abbrev pub SymbolsEnd : List Label → List PlacedLine → Type 0
SymbolsEnd labels lines =
    let ends = ends_of (section_bytes Text labels lines) (section_bytes Data labels lines) in
    symbols_of ends labels ≡ map (symbol_of ends labels) labels

-- in a source without a fault no label stands between a symbol's address and its end, be it defined before or after
abbrev pub EachSymbolEnds : Type 0
EachSymbolEnds = (source : List ℕ) → first_fault (labels_of (lines_placed source)) (lines_placed source) ≡ None
    → SymbolsEnd (labels_of (lines_placed source)) (lines_placed source)

-- the word of each instruction is decoded as that instruction
abbrev pub EachWordIsDecoded : Type 0
EachWordIsDecoded = (i : Instr) → decoded (encoded i) ≡ Some i
