-- What `hunt` makes of the bytes of an image and its options.
use Rattle.std.specs.Prelude.{◌≡◌, ⊤, ℕ, Bool, false, ◌||◌, Option, Some, None, option_and_then, option_map, Result, Ok, if◌then◌else◌, nat_lt, List, [], ◌∷◌, ◌++◌, filter, length, take}
use Rattle.std.specs.Map.{keys_of}
use Rattle.std.specs.Option.{option_map_or}
use Rattle.rv_elf.specs.Contents.{Contents}
use Rattle.rv_explain.specs.Naming.{Naming}
use Rattle.rv_lines.specs.SourceLines.{SourceLine}
use Rattle.rv_object.specs.HuntObject.{hunt_facts}
use Rattle.rv_tables.specs.HuntText.{table_text}
use Rattle.rv_search.specs.Hunt.{Hunt}
use Rattle.rv_search.specs.Hunted.{IsHunted}
use Rattle.rv_tables.specs.Origin.{Origin, image_digits, last_line, stretch_on}
use Rattle.rv_shown.specs.Outcome.{Outcome}
use Rattle.rv_page.specs.PageFacts.{page_facts}
use Rattle.rv_search.specs.RightEnds.{has_wrong_end, right_codes}
use Rattle.rv_tables.specs.ShownRows.{shown_rows}
use Rattle.rv_shown.specs.ToldOrder.{AreInOrder, benign, bugs}
use Rattle.rv_shown.specs.Warnings.{is_void}
use Rattle.rv_search.specs.declared.hunted.Hunted.{Hunted}
use Rattle.rv_tables.specs.declared.row.RaceRow.{RaceRow}
use Rattle.rv_memory.specs.Flagged.{device, has_failed}
use Rattle.rv_memory.specs.Chain.{◌>>=◌}
use Rattle.rv_sample.specs.Sites.{sites}
use Rattle.rv_engines.specs.Built.{built_of}
use Rattle.rv_engines.specs.Campaigns.{elements, listed, skipped}
use Rattle.rv_faults.specs.CommandFault.{Refusal, plainly}
use Rattle.rv_engines.specs.Images.{image_of}
use Rattle.rv_faults.specs.SourceFile.{lines_miss, source_in}
use Rattle.rv_engines.specs.declared.built.Built.{Built}
use Rattle.rv_shown.specs.Asked.{Asked}
use Rattle.rv_remade.specs.OrderShown.{AreOrdersShown}
use Rattle.rv_remade.specs.Shown.{AreShown}
use Rattle.rv_remade.specs.StuckShown.{AreStuckShown}
use Rattle.rv_shown.specs.declared.shown.ShownStuck.{ShownStuck}
use Rattle.rv_shown.specs.declared.shown.ShownOrder.{ShownOrder}
use Rattle.rv_shown.specs.declared.shown.ShownRace.{ShownRace}
use Rattle.rv_shown.specs.declared.found.Found.{Found}
use Rattle.rv_hunt.specs.declared.engine.inputs.Inputs.{Inputs}
use Rattle.rv_shown.specs.declared.options.HuntOptions.{HuntOptions}
use Rattle.rv_shown.specs.declared.options.Shows.{Shows}
use Rattle.rv_shown.specs.declared.options.Shows.TheVariants.{Text, Table}
use Rattle.rv_tables.specs.merge.Ignore.{aimed_in, ignores_of, is_ignored, is_told, naming_of}
use Rattle.rv_tables.specs.merge.Known.{has_gone, known_of, new_races}
use Rattle.rv_tables.specs.merge.Listing.{list_text}
use Rattle.rv_tables.specs.merge.Merge.{bytes_if}
use Rattle.rv_tables.specs.declared.merge.known.Known.{Known}
use Rattle.rv_tables.specs.declared.merge.fault.FileFault.{FileFault}
use Rattle.rv_tables.specs.declared.merge.ignore.Line.{Line}
use Rattle.rv_json.specs.Object.{Member}
use Rattle.rv_markup.specs.declared.markup.Fact.{Fact}
use Rattle.rv_report.specs.declared.key.Key.{Key}

-- ---- what is hunted

-- The hunt that an image's bytes and the options ask for, or why it is refused: by the image, by the list of addresses,
-- by the list of names, or by that of idle functions.
unfoldable pub hunt_of : Asked → List ℕ → Result Hunt Refusal
hunt_of asked bytes = do
  image ← plainly (image_of bytes)
  excluded ← skipped (elements asked.skip)
  ranges ← listed image (elements asked.named)
  idle ← listed image (elements asked.idle)
  Ok (record { source = record { image = image; sites = sites image excluded; seed = asked.seed }; given = asked.given; ranges = ranges; idle = idle; first = asked.first; limit = asked.limit })

-- The image in which what is aimed at is looked for: neither it nor the lists of addresses and of names are refused. That is before the list
-- of idle functions is read.
abbrev pub sought_in : Asked → List ℕ → Result Contents Refusal
sought_in asked bytes = do
  image ← plainly (image_of bytes)
  excluded ← skipped (elements asked.skip)
  ranges ← listed image (elements asked.named)
  Ok image

-- ---- the files

-- the bytes of the image, of the source lines, of the list of races to be ignored, and of the table or list of expected ones, where they are given
pub record Files : Type 0 where
  pub image : List ℕ
  pub lines : Option (List ℕ)
  pub ignored : Option (List ℕ)
  pub expected : Option (List ℕ)

-- the bytes that the readers have left, where they are all known
abbrev pub files_of : {R : Type 0} → (R → Option (List ℕ)) → Inputs R → Option Files
files_of remaining inputs =
    option_and_then (λ image. option_and_then (λ lines. option_and_then (λ ignored. option_map (λ expected. record { image = image; lines = lines; ignored = ignored; expected = expected })
    (bytes_if remaining inputs.expected))
    (bytes_if remaining inputs.ignored))
    (bytes_if remaining inputs.lines))
    (remaining (device inputs.image))

-- one of the readers has failed
abbrev pub any_failed : {R : Type 0} → Inputs R → Bool
any_failed inputs =
    has_failed inputs.image || option_map_or has_failed inputs.lines false || option_map_or has_failed inputs.ignored false || option_map_or has_failed inputs.expected false

-- the lines of the races to be ignored, or why the list is refused
abbrev pub ignored_in : Naming → Option (List ℕ) → Result (List Line) FileFault
ignored_in naming None = Ok []
ignored_in naming (Some bytes) = ignores_of naming bytes

-- the races that are expected, by a table or a list, or why it is refused
abbrev pub expected_in : Option (List ℕ) → Result (Option Known) FileFault
expected_in None = Ok None
expected_in (Some bytes) = known_of bytes >>= λ known. Ok (Some known)

-- What is hunted, the digits of its image's file, the source lines, where they are given, which races are counted and not told, which are expected, what is aimed at, which exit codes are
-- right, and what the image was built with.
pub record Hunting : Type 0 where
  pub hunt : Hunt
  pub digits : List ℕ
  pub lines : Option (List SourceLine)
  pub ignored : List Line
  pub expected : Option Known
  pub aim : List Line
  pub right : List ℕ
  pub built : Built

-- the image, and the source lines, where they are given
abbrev pub naming_in : Hunting → Naming
naming_in hunting = naming_of hunting.hunt.source.image hunting.lines

-- the files and the options ask for it
pub record IsHuntingOf (asked : Asked) (files : Files) (hunting : Hunting) : Type 0 where
  pub hunt_is : hunt_of asked files.image ≡ Ok hunting.hunt
  pub digits_are : hunting.digits ≡ image_digits files.image
  pub lines_are : source_in files.lines ≡ Ok hunting.lines
  pub ignored_is : ignored_in (naming_in hunting) files.ignored ≡ Ok hunting.ignored
  pub expected_is : expected_in files.expected ≡ Ok hunting.expected
  pub aim_is : aimed_in hunting.hunt.source.image asked.aim ≡ Ok hunting.aim
  pub right_is : hunting.right ≡ right_codes asked.right
  pub built_is : hunting.built ≡ built_of files.image

-- ---- what is told

-- the rows of the races that no line of the list fits, and of the others
abbrev pub told_in : Hunting → Hunted → List (Key × RaceRow)
told_in hunting saw = filter (is_told (naming_in hunting) hunting.ignored) saw.table

abbrev pub ignored_by : Hunting → Hunted → List (Key × RaceRow)
ignored_by hunting saw = filter (is_ignored (naming_in hunting) hunting.ignored) saw.table

-- the races as they are shown
abbrev pub shown_in : Hunting → Hunted → List (Key × RaceRow)
shown_in hunting saw = shown_rows (told_in hunting saw) saw.changed

-- what a hunt came to
abbrev pub outcome : Hunting → Hunted → Outcome
outcome hunting saw = record {
  sites = length hunting.hunt.source.sites;
  mix = hunting.hunt.given.mix;
  saw = saw;
  rows = told_in hunting saw;
  races = shown_in hunting saw;
  ignored = ignored_by hunting saw;
  gone = has_gone (naming_in hunting) hunting.expected;
  misses = lines_miss hunting.hunt.source.image hunting.lines;
  built = hunting.built;
}

-- the rows of races that may be bugs and are not expected
abbrev pub new_in : Hunting → Hunted → List (Key × RaceRow)
new_in hunting saw = new_races (naming_in hunting) hunting.expected (told_in hunting saw)

-- The text for the standard output, and the notes for the standard error.
pub record Texts : Type 0 where
  pub text : List ℕ
  pub notes : List ℕ

-- how many races are shown in full: none where only the table is wanted
abbrev pub full_of : Shows → Bool → ℕ → ℕ
full_of Text files blocks = blocks
full_of Table files blocks = if files then blocks else 0

-- how many races may be a bug, how many are likely benign, whether one that may be a bug is not expected, and how many stuck ends are
-- shown; whether a hart ended as it should not, and whether that there is no race would mean nothing
abbrev pub found_in : List (Key × RaceRow) → List (Key × RaceRow) → ℕ → Bool → Bool → Found
found_in unexpected races stuck wrong void = record {
  bugs = bugs races;
  benign = benign races;
  is_unexpected = nat_lt 0 (length unexpected);
  stuck = stuck;
  has_wrong_end = wrong;
  is_void = void;
}

abbrev pub found_of : Hunting → Hunted → ℕ → Bool → Found
found_of hunting saw stuck wrong = found_in (new_in hunting saw) (shown_in hunting saw) stuck wrong (is_void (outcome hunting saw))

-- what the standard output gets, how many races are shown in full, the version of the program, and what was given of the runs
pub record Showing : Type 0 where
  pub shows : Shows
  pub full : ℕ
  pub version : List ℕ
  pub given : List ℕ

-- the same by the options, where a folder or a page is given
abbrev pub showing_of : HuntOptions → Bool → Bool → Showing
showing_of options folder page = record {
  shows = options.shows;
  full = full_of options.shows (folder || page) options.blocks;
  version = options.line.version.now;
  given = options.line.given.now;
}

-- what the rows of a hunt are of
abbrev pub origin_of : Showing → Hunting → Hunted → Origin
origin_of way hunting saw = record {
  image = hunting.digits;
  version = way.version;
  seed = hunting.hunt.source.seed;
  stretches = stretch_on hunting.hunt.first saw.tally.runs ∷ [];
  given = way.given;
}

-- of the table the text is the table, and the line of what it is of
abbrev pub IsTable : Shows → List (Key × RaceRow) → Origin → List ℕ → Type 0
IsTable Text rows origin text = ⊤
IsTable Table rows origin text = text ≡ table_text rows ++ last_line (Some origin)

-- What is made of a hunt: its runs, what they saw, the races with their orders and the stuck ends that are shown in full, the page, the list
-- of the races, and what was found as JSON.
pub record IsMade (way : Showing) (hunting : Hunting) (Saves : ℕ → List ℕ → Type 0) (Pages : List Fact → Type 0) (Lists : List ℕ → Type 0) (Objects : List Member → Type 0) (found : Found) (texts : Texts) : Type 0 where
  pub saw : Hunted
  pub hunted : IsHunted hunting.hunt saw
  pub told : List (Key × RaceRow)
  pub order : AreInOrder hunting.hunt.source.image saw.orders (shown_in hunting saw) told
  pub shown : List ShownRace
  pub are_shown : AreShown hunting.hunt Saves (take way.full told) shown
  pub orders : List ShownOrder
  pub are_ordered : AreOrdersShown hunting.hunt saw.orders (keys_of (take way.full told)) orders
  pub is_table : IsTable way.shows (told_in hunting saw) (origin_of way hunting saw) texts.text
  pub paged : Pages (page_facts (outcome hunting saw) told (length shown))
  pub listed : Lists (list_text (naming_in hunting) (told_in hunting saw))
  pub objected : Objects (hunt_facts (outcome hunting saw) told)
  pub stuck : List ShownStuck
  pub are_stuck : AreStuckShown hunting.hunt stuck
  pub found_is : found ≡ found_of hunting saw (length stuck) (has_wrong_end hunting.right hunted.so_far.runs)

-- The runs of the hunt are made; what they saw is shown and counted, the runs of the races that are shown in full are saved,
-- and the page, the list of the races and what was found as JSON are made.
pub record IsTold (way : Showing) (hunting : Hunting) (found : Found) (Writes Notes : List ℕ → Type 0) (Saves : ℕ → List ℕ → Type 0) (Pages : List Fact → Type 0) (Lists : List ℕ → Type 0) (Objects : List Member → Type 0) : Type 0 where
  pub texts : Texts
  pub made : IsMade way hunting Saves Pages Lists Objects found texts
  pub written : Writes texts.text
  pub noted : Notes texts.notes
