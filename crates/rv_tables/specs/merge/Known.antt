-- The races that are expected, by a table or by a list, and which races of a hunt are not.
use Rattle.std.specs.Prelude.{ℕ, Bool, true, false, not, ◌&&◌, if◌then◌else◌, Option, Some, None, is_some, Result, Ok, List, [], filter, slice_get}
use Rattle.std.specs.Option.{unwrap_or}
use Rattle.rv_collide.specs.ScheduleRead.{words_of}
use Rattle.rv_symbols.specs.Naming.{Naming}
use Rattle.rv_faults.specs.Fault.{unless_long}
use Rattle.rv_tables.specs.Expected.{may_be_bug}
use Rattle.rv_tables.specs.HuntRead.{races_in}
use Rattle.rv_tables.specs.Rows.{has_race}
use Rattle.rv_tables.specs.declared.row.RaceRow.{RaceRow}
use Rattle.rv_tables.specs.merge.FileFault.{plainly, told_ignore}
use Rattle.rv_tables.specs.merge.Ignore.{has_unknown, is_ignored, lines_from}
use Rattle.rv_tables.specs.merge.TableFiles.{expected_rows}
use Rattle.rv_tables.specs.declared.merge.fault.FileFault.{FileFault}
use Rattle.rv_tables.specs.declared.merge.known.Known.{Known}
use Rattle.rv_tables.specs.declared.merge.known.Known.TheVariants.{Table, Lines}
use Rattle.rv_memory.specs.Chain.{◌>>=◌}
use Rattle.rv_report.specs.declared.key.Key.{Key}
use Rattle.rv_text.specs.Pieces.{pieces_of}

-- ---- what a file says

-- The text is a table: its first line is `races` and a number.
abbrev pub is_table : List ℕ → Bool
is_table text = is_some (races_in (words_of (unwrap_or (slice_get (pieces_of 10 text) 0) [])))

abbrev pub table_of : List ℕ → Result Known FileFault
table_of text = expected_rows text >>= λ rows. Ok (Table rows)

-- Of a list any name may be unknown: functions go, and then a line fits no race.
abbrev pub list_of : List ℕ → Result Known FileFault
list_of text = told_ignore (lines_from (λ line. true) 1 (pieces_of 10 text)) >>= λ lines. Ok (Lines lines)

-- what a file says, or why its bytes are refused
unfoldable pub known_of : List ℕ → Result Known FileFault
known_of bytes = do
  text ← plainly (unless_long bytes)
  if is_table text then table_of text else list_of text

-- ---- which races are new

-- a table has a row of the race, of whatever class, or a line of a list fits it
abbrev pub is_expected : Naming → Known → Key × RaceRow → Bool
is_expected naming (Table rows) race = has_race race.0 rows
is_expected naming (Lines lines) race = is_ignored naming lines race

-- the race may be a bug, and is not expected
abbrev pub is_new : Naming → Known → Key × RaceRow → Bool
is_new naming known race = may_be_bug race.1.class && not (is_expected naming known race)

-- those of the races, where some are expected
abbrev pub new_races : Naming → Option Known → List (Key × RaceRow) → List (Key × RaceRow)
new_races naming None races = []
new_races naming (Some known) races = filter (is_new naming known) races

-- ---- what has gone

-- a line has a name that no symbol of the image and no source line has
abbrev pub has_gone : Naming → Option Known → Bool
has_gone naming None = false
has_gone naming (Some (Table rows)) = false
has_gone naming (Some (Lines lines)) = has_unknown naming lines
