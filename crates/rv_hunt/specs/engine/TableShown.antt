-- What `show` makes of the bytes of an image and of a hunt's table.
use Rattle.std.specs.Prelude.{◌≡◌, ◌⊎◌, ℕ, ◌+◌, ◌||◌, Bool, true, false, Option, Some, None, Result, Ok, Err, IsOkAnd, List, [], filter, length, map, take}
use Rattle.rv_collide.specs.Counts.{saturated}
use Rattle.rv_faults.specs.CommandFault as command
use Rattle.rv_engines.specs.Images.{image_of}
use Rattle.rv_elf.specs.Contents.{Contents}
use Rattle.rv_faults.specs.SourceFile as source
use Rattle.rv_faults.specs.SourceFile.{lines_miss, source_in}
use Rattle.rv_explain.specs.Naming.{Naming}
use Rattle.rv_lines.specs.SourceLines.{SourceLine}
use Rattle.rv_hunt.specs.GivenRuns.{RunsGiven, given_in, mix_of, slots_of}
use Rattle.rv_search.specs.Hunt.{Hunt}
use Rattle.rv_object.specs.HuntObject.{object_facts, table_sums}
use Rattle.rv_tables.specs.Origin.{Origin, image_digits, other_than, runs_of, words_in}
use Rattle.rv_page.specs.PageFacts.{table_facts}
use Rattle.rv_shown.specs.ToldOrder.{AreInOrder}
use Rattle.rv_hunt.specs.declared.engine.fault.HuntFault.{HuntFault}
use Rattle.rv_hunt.specs.declared.engine.fault.HuntFault.TheVariants.{Command, Ignored, Expected, Aimed, Lines}
use Rattle.rv_shown.specs.declared.found.Found.{Found}
use Rattle.rv_hunt.specs.declared.engine.show.ShowFault.{ShowFault}
use Rattle.rv_hunt.specs.declared.engine.show.ShowFault.TheVariants as show
use Rattle.rv_shown.specs.declared.shown.ShownRace.{ShownRace}
use Rattle.rv_hunt.specs.declared.engine.tabled.ShownTable.{ShownTable}
use Rattle.rv_tables.specs.declared.fault.TableKind.{TableKind}
use Rattle.rv_tables.specs.declared.fault.TableKind.TheVariants as kind
use Rattle.rv_tables.specs.declared.merge.fault.FileFault.{FileFault}
use Rattle.rv_tables.specs.declared.merge.fault.FileFault.TheVariants.{Table}
use Rattle.rv_tables.specs.declared.merge.ignore.Line.{Line}
use Rattle.rv_tables.specs.declared.merge.known.Known.{Known}
use Rattle.rv_tables.specs.declared.origin_line.ReadTable.{ReadTable}
use Rattle.rv_tables.specs.declared.row.RaceRow.{RaceRow}
use Rattle.rv_shown.specs.Asked.{Asked}
use Rattle.rv_hunt.specs.engine.HuntFault as hunting
use Rattle.rv_hunt.specs.engine.Hunting.{Files, expected_in, found_in, hunt_of, ignored_in}
use Rattle.rv_remade.specs.Shown.{AreShown}
use Rattle.rv_tables.specs.merge.FileFault as file
use Rattle.rv_tables.specs.merge.Ignore.{is_ignored, is_told, naming_of}
use Rattle.rv_tables.specs.merge.Known.{has_gone, new_races}
use Rattle.rv_tables.specs.merge.Listing.{list_text}
use Rattle.rv_tables.specs.merge.TableFiles.{hunt_table}
use Rattle.rv_json.specs.Object.{Member}
use Rattle.rv_markup.specs.declared.markup.Fact.{Fact}
use Rattle.rv_memory.specs.Chain.{◌>>=◌}
use Rattle.rv_report.specs.declared.key.Key.{Key}
use Rattle.rv_plans.specs.declared.limit.Limit.TheVariants.{Runs}

-- ---- the table

-- a fault of the last line of a table of so many rows
abbrev pub last_fault : ℕ → TableKind → FileFault
last_fault rows kind = Table (record { line = saturated (rows + 2); kind = kind })

abbrev pub unless_other : List (Key × RaceRow) → Origin → Option TableKind → Result ShownTable FileFault
unless_other rows origin None = Ok (record { rows = rows; origin = origin })
unless_other rows origin (Some kind) = Err (last_fault (length rows) kind)

abbrev pub of_origin : List ℕ → List ℕ → List (Key × RaceRow) → Option Origin → Result ShownTable FileFault
of_origin image version rows None = Err (last_fault (length rows) kind.End)
of_origin image version rows (Some origin) = unless_other rows origin (other_than image version origin)

-- the table, if its last line says that it is of the image with these digits and by this version
abbrev pub shown_of : List ℕ → List ℕ → ReadTable → Result ShownTable FileFault
shown_of image version table = of_origin image version table.rows table.origin

-- the table that the bytes of a file are, or why it isn't shown
unfoldable pub table_in : List ℕ → List ℕ → List ℕ → Result ShownTable FileFault
table_in image version bytes = hunt_table bytes >>= shown_of image version

-- a row without where in its run its report was met and by which accesses, which no table's text says
abbrev pub part_less : RaceRow → RaceRow
part_less row = record row { part = 0; address = None; accesses = None }

abbrev pub without_place : Key × RaceRow → Key × RaceRow
without_place row = (row.0, part_less row.1)

-- ---- the runs

-- a hunt whose runs have this seed and what is given; of it only runs that rows name are made
abbrev pub asked_by : ℕ → RunsGiven → Asked
asked_by seed given = record {
  given = record { mix = mix_of given; harts = given.harts; slots = slots_of given; lengths = given.lengths };
  seed = seed;
  first = 0;
  limit = Runs 1;
  named = given.named;
  skip = given.skip;
  idle = None;
  aim = given.aim;
  right = None;
}

-- What is shown of a table: a hunt with the runs that its last line says, the source lines, where they are given, which races are counted
-- and not told, and which are expected.
pub record TableShown : Type 0 where
  pub hunt : Hunt
  pub lines : Option (List SourceLine)
  pub ignored : List Line
  pub expected : Option Known

-- the image, and the source lines, where they are given
abbrev pub naming_in : TableShown → Naming
naming_in shown = naming_of shown.hunt.source.image shown.lines

-- the version of the program, the files and the bytes of a table ask for it
pub record IsShownOf (version : List ℕ) (files : Files) (bytes : List ℕ) (table : ShownTable) (shown : TableShown) : Type 0 where
  pub table_is : table_in (image_digits files.image) version bytes ≡ Ok table
  pub given : RunsGiven
  pub given_is : given_in (words_in table.origin.given) ≡ Some given
  pub hunt_is : hunt_of (asked_by table.origin.seed given) files.image ≡ Ok shown.hunt
  pub lines_are : source_in files.lines ≡ Ok shown.lines
  pub ignored_is : ignored_in (naming_in shown) files.ignored ≡ Ok shown.ignored
  pub expected_is : expected_in files.expected ≡ Ok shown.expected

-- ---- what is told

-- of these rows those that no line of the list fits, and the others
abbrev pub told_of : TableShown → List (Key × RaceRow) → List (Key × RaceRow)
told_of shown rows = filter (is_told (naming_in shown) shown.ignored) rows

abbrev pub ignored_of : TableShown → List (Key × RaceRow) → List (Key × RaceRow)
ignored_of shown rows = filter (is_ignored (naming_in shown) shown.ignored) rows

-- what the page shows of rows, of which these are told in this order
abbrev pub facts_of : TableShown → List (Key × RaceRow) → List (Key × RaceRow) → ℕ → List Fact
facts_of shown rows told full = table_facts (has_gone (naming_in shown) shown.expected || lines_miss shown.hunt.source.image shown.lines) (told_of shown rows) (ignored_of shown rows) told full

-- what the object has of them, and of so many runs
abbrev pub members_of : TableShown → List (Key × RaceRow) → List (Key × RaceRow) → ℕ → List Member
members_of shown rows told runs = object_facts (table_sums (told_of shown rows) (ignored_of shown rows) runs) told

-- what decides the exit status: of how harts ended a table says nothing
abbrev pub found_of : TableShown → List (Key × RaceRow) → Found
found_of shown rows = found_in (new_races (naming_in shown) shown.expected (told_of shown rows)) (told_of shown rows) 0 false false

-- What is made of a table, of whose rows so many are shown in full: each of these is a race of the run that its row names, whose schedule is
-- saved; the page; the list; and what was found as JSON. No order is tried.
pub record IsMade (shown : TableShown) (full : ℕ) (table : ShownTable) (Saves : ℕ → List ℕ → Type 0) (Pages : List Fact → Type 0) (Lists : List ℕ → Type 0) (Objects : List Member → Type 0) (found : Found) : Type 0 where
  pub rows : List (Key × RaceRow)
  pub rows_are : map without_place rows ≡ map without_place table.rows
  pub told : List (Key × RaceRow)
  pub order : AreInOrder shown.hunt.source.image [] (told_of shown rows) told
  pub races : List ShownRace
  pub are_shown : AreShown shown.hunt Saves (take full told) races
  pub paged : Pages (facts_of shown rows told (length races))
  pub listed : Lists (list_text (naming_in shown) (told_of shown rows))
  pub objected : Objects (members_of shown rows told (runs_of table.origin.stretches))
  pub found_is : found ≡ found_of shown rows

-- ---- the fault

-- the last line doesn't say how runs are made, or the run of a row makes no such report
pub data IsOfRuns (version : List ℕ) (files : Files) (table : List ℕ) (given : FileFault) : Type 0 where
  unsaid : (shown : ShownTable) → table_in (image_digits files.image) version table ≡ Ok shown → given ≡ last_fault (length shown.rows) kind.Shape → IsOfRuns version files table given
  unmet : (line : ℕ) → given ≡ Table (record { line = line; kind = kind.NotMet }) → IsOfRuns version files table given

abbrev pub IsHuntTold : Files → HuntFault → Type 0
IsHuntTold files (Command given) = command.IsTold (command.plainly (image_of files.image)) (command.refusal given)
IsHuntTold files (Lines given) = source.IsTold (source_in files.lines) given
IsHuntTold files (Ignored given) =
    IsOkAnd (source_in files.lines) (λ (lines : Option (List SourceLine)). IsOkAnd (image_of files.image) (λ (image : Contents). file.IsTold (ignored_in (naming_of image lines) files.ignored) given))
IsHuntTold files (Expected given) = file.IsTold (expected_in files.expected) given
IsHuntTold files (Aimed given) = ⊥

-- the fault is the one that is told of the files
abbrev pub IsTold : List ℕ → Files → List ℕ → ShowFault → Type 0
IsTold version files table (show.Table given) = file.IsTold (table_in (image_digits files.image) version table) given ⊎ IsOfRuns version files table given
IsTold version files table (show.Hunt given) = IsHuntTold files given

-- the fault is that a reader failed
abbrev pub is_read : ShowFault → Bool
is_read (show.Table given) = file.is_read given
is_read (show.Hunt given) = hunting.is_read given

-- the fault is that a writer, a file or a folder failed
abbrev pub is_write : ShowFault → Bool
is_write (show.Table given) = file.is_write given
is_write (show.Hunt given) = hunting.is_write given

-- the fault is of what the files say, and of no device
abbrev pub is_of_files : ShowFault → Bool
is_of_files (show.Table given) = true
is_of_files (show.Hunt given) = hunting.is_of_files given

-- something was refused, and the fault passes the test
abbrev pub fails_by : {A : Type 0} → (ShowFault → Bool) → Result A ShowFault → Bool
fails_by test (Ok a) = false
fails_by test (Err given) = test given
