-- The lines of an ignore list by the numbers of their words, and what is tested of them.
use Rattle.std.specs.Prelude.{◌≡◌, ⊤, ℕ, ◌<◌, Bool, true, false, ◌&&◌, ◌||◌, ◌==◌, if◌then◌else◌, Option, Some, None, option_map, List, [], ◌∷◌, map, filter_map, length, get_or}
use Rattle.std.specs.List.{AllZip}
use Rattle.std.specs.Option.{option_map_or}
use Rattle.rv_elf.specs.Contents.{Contents}
use Rattle.rv_symbols.specs.Naming.{Naming}
use Rattle.rv_tables.specs.declared.merge.ignore.Line.{Line}
use Rattle.rv_tables.specs.declared.merge.ignore.ListedLine.{ListedLine}
use Rattle.rv_tables.specs.declared.merge.ignore.Names.{Names}
use Rattle.rv_tables.specs.declared.merge.ignore.Side.{Side}
use Rattle.rv_tables.specs.declared.merge.ignore.Side.TheVariants as side
use Rattle.rv_tables.specs.declared.merge.sought.Instruction.{Instruction}
use Rattle.rv_tables.specs.declared.merge.sought.RacePlaces.{RacePlaces}
use Rattle.rv_tables.specs.declared.merge.sought.SoughtLine.{SoughtLine}
use Rattle.rv_tables.specs.declared.merge.sought.SoughtSide.{SoughtSide}
use Rattle.rv_tables.specs.declared.merge.sought.SoughtSide.TheVariants.{Any, Address, Word}
use Rattle.rv_tables.specs.declared.merge.words.Words.{Words}
use Rattle.rv_report.specs.declared.key.Key.{Key}
use Rattle.rv_tables.specs.internal.Words.{AreInstructionMarks, AreMarksAt, AreNumbered, count, named_by, number_of}

-- a number is below how many words there are
abbrev pub IsWithin : ℕ → SoughtSide → Type 0
IsWithin number Any = ⊤
IsWithin number (Address address) = ⊤
IsWithin number (Word word) = word < number

abbrev pub LineIsWithin : ℕ → SoughtLine → Type 0
LineIsWithin number line = IsWithin number line.one × IsWithin number line.other × IsWithin number line.on

abbrev pub is_known : List Bool → SoughtSide → Bool
is_known known Any = true
is_known known (Address address) = true
is_known known (Word word) = get_or known word false

abbrev pub line_is_known : List Bool → SoughtLine → Bool
line_is_known known line = is_known known line.one && is_known known line.other && is_known known line.on

abbrev pub first_unknown : List Bool → List SoughtLine → Option ℕ
first_unknown known [] = None
first_unknown known (line ∷ lines) = if line_is_known known line then first_unknown known lines else Some line.at

abbrev pub fits : Instruction → SoughtSide → Bool
fits instruction Any = true
fits instruction (Address address) = option_map_or (λ at. at == address) instruction.at false
fits instruction (Word word) = get_or instruction.marks.items word false

abbrev pub line_fits : RacePlaces → SoughtLine → Bool
line_fits race line =
    ((fits race.first line.one && fits race.second line.other) || (fits race.second line.one && fits race.first line.other)) && fits race.on line.on

-- a side by the number of its word
abbrev pub sought_side : Words → Side → Option SoughtSide
sought_side words side.Any = Some Any
sought_side words (side.Address address) = Some (Address address)
sought_side words (side.Name word) = option_map Word (number_of words word)

abbrev pub IsSought : Words → ListedLine → SoughtLine → Type 0
IsSought words listed line =
    (line.at ≡ listed.at) × (sought_side words listed.line.one ≡ Some line.one) × (sought_side words listed.line.other ≡ Some line.other)
    × (sought_side words listed.line.on ≡ Some line.on)

abbrev pub lines_in : List ListedLine → List Line
lines_in listed = map (λ (l : ListedLine). l.line) listed

-- the words have numbers, and the symbols are those of the image that have them for names
pub record AreNamesOf (names : Names) (image : Contents) : Type 0 where
  pub numbered : AreNumbered names.words
  pub symbols : names.symbols.items ≡ filter_map (named_by names.words) image.symbols

-- the names that these lines say, of this image
pub record AreNames (names : Names) (image : Contents) (listed : List ListedLine) : Type 0 where
  pub of_image : AreNamesOf names image
  pub sought : AllZip (IsSought names.words) listed names.lines.items

abbrev pub AreTheNames : Names → Contents → List Line → Type 0
AreTheNames names image lines = (listed : List ListedLine) × (lines ≡ lines_in listed) × AreNames names image listed

-- the data, with the names there
pub record IsData (names : Names) (image : Contents) (at : Option ℕ) (place : Instruction) : Type 0 where
  pub at_is : place.at ≡ at
  pub count : length place.marks.items ≡ count names.words
  pub marks : AreMarksAt names.words image at place.marks.items

-- the instruction, with the names there
pub record IsInstruction (names : Names) (naming : Naming) (at : Option ℕ) (instruction : Instruction) : Type 0 where
  pub at_is : instruction.at ≡ at
  pub count : length instruction.marks.items ≡ count names.words
  pub marks : AreInstructionMarks names.words naming at instruction.marks.items

-- the places of a race
pub record ArePlaces (names : Names) (naming : Naming) (key : Key) (on : Option ℕ) (places : RacePlaces) : Type 0 where
  pub first_is : IsInstruction names naming (Some key.first) places.first
  pub second_is : IsInstruction names naming key.second places.second
  pub on_is : IsData names naming.image on places.on
