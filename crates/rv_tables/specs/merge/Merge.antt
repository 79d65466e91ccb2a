-- What `merge` makes of the bytes of hunt tables, and of the table of races that are expected.
use Rattle.std.specs.Prelude.{◌≡◌, ℕ, ◌+◌, Bool, false, ◌||◌, Option, Some, None, option_and_then, option_map, Result, Ok, Err, List, [], ◌∷◌, ◌++◌, filter, is_some, length}
use Rattle.std.specs.List.{list_any}
use Rattle.std.specs.Option.{option_map_or}
use Rattle.rv_tables.specs.Expected.{is_unexpected}
use Rattle.rv_tables.specs.HuntText.{table_text}
use Rattle.rv_tables.specs.Origin.{last_line}
use Rattle.rv_tables.specs.declared.merge.whole.GivenTable.{GivenTable}
use Rattle.rv_tables.specs.declared.merge.whole.Whole.{Whole}
use Rattle.rv_tables.specs.declared.origin_line.ReadTable.{ReadTable}
use Rattle.rv_tables.specs.declared.row.RaceRow.{RaceRow}
use Rattle.rv_memory.specs.Chain.{◌>>=◌}
pub use Rattle.rv_faults.specs.SourceFile.{bytes_if}
use Rattle.rv_memory.specs.Flagged.{device, has_failed}
use Rattle.rv_memory.specs.declared.flagged.Flagged.{Flagged}
use Rattle.rv_tables.specs.merge.FileFault.{UnlessDevice}
use Rattle.rv_tables.specs.merge.TableFiles.{expected_table, hunt_table}
use Rattle.rv_tables.specs.merge.Whole.{whole_of}
use Rattle.rv_tables.specs.declared.merge.fault.FileFault.{FileFault}
use Rattle.rv_tables.specs.declared.merge.MergeFault.{MergeFault}
use Rattle.rv_report.specs.declared.key.Key.{Key}

abbrev pub Table : Type 0
Table = List (Key × RaceRow)

-- The bytes of the tables that are merged, and of the one with the races that are expected, where there is one.
pub record Files : Type 0 where
  pub tables : List (List ℕ)
  pub expected : Option (List ℕ)

-- What is written, and those of its rows whose races may be bugs and are not expected.
pub record Merge : Type 0 where
  pub whole : Whole
  pub unexpected : Table

-- the text: the table, and behind it the line of what it is of
abbrev pub merge_text : Merge → List ℕ
merge_text merge = table_text merge.whole.rows ++ last_line merge.whole.origin

-- ---- the definition

-- a fault of the file of that number, from 0 on
abbrev pub in_file : {A : Type 0} → ℕ → Result A FileFault → Result A MergeFault
in_file number (Ok a) = Ok a
in_file number (Err fault) = Err (record { file = Some number; fault = fault })

-- the table of the file of that number
abbrev pub given_as : ℕ → ReadTable → GivenTable
given_as number table = record { number = number; rows = table.rows; origin = table.origin }

-- the tables of files, the first of which has this number, or the first file that is refused
unfoldable pub tables_from : ℕ → List (List ℕ) → Result (List GivenTable) MergeFault
tables_from number [] = Ok []
tables_from number (bytes ∷ later) = do
  table ← in_file number (hunt_table bytes)
  tables ← tables_from (number + 1) later
  Ok (given_as number table ∷ tables)

-- the races that are expected, where a file has them
abbrev pub expected_in : ℕ → Option (List ℕ) → Result (Option Table) MergeFault
expected_in number None = Ok None
expected_in number (Some bytes) = in_file number (expected_table bytes) >>= λ table. Ok (Some table)

-- the rows of races that may be bugs and are not expected, where some are
abbrev pub unexpected_in : Option Table → Table → Table
unexpected_in expected table = option_map_or (λ rows. filter (is_unexpected rows) table) expected []

-- What the files are merged to, or the first of them that is refused. The one of expected races is the last.
unfoldable pub merge_of : Bool → Files → Result Merge MergeFault
merge_of gaps files = do
  tables ← tables_from 0 files.tables
  whole ← whole_of gaps tables
  expected ← expected_in (length files.tables) files.expected
  Ok (record { whole = whole; unexpected = unexpected_in expected whole.rows })

-- each of the tables says what it is of
abbrev pub is_of_one : Merge → Bool
is_of_one merge = is_some merge.whole.origin

-- ---- the files' bytes

-- the bytes that each of the readers has left, where they are all known
abbrev pub bytes_of : {R : Type 0} → (R → Option (List ℕ)) → List (Flagged R) → Option (List (List ℕ))
bytes_of remaining [] = Some []
bytes_of remaining (reader ∷ readers) =
    option_and_then (λ bytes. option_map (λ later. bytes ∷ later) (bytes_of remaining readers)) (remaining (device reader))

abbrev pub files_of : {R : Type 0} → (R → Option (List ℕ)) → List (Flagged R) → Option (Flagged R) → Option Files
files_of remaining tables expected =
    option_and_then (λ each. option_map (λ last. record { tables = each; expected = last }) (bytes_if remaining expected)) (bytes_of remaining tables)

-- ---- the fault

-- the fault is the one that is told of the files
abbrev pub IsTold : {A : Type 0} → Result A MergeFault → MergeFault → Type 0
IsTold told fault = UnlessDevice fault.fault (told ≡ Err fault)

-- something was refused, and the fault passes the test
abbrev pub fails_by : {A : Type 0} → (FileFault → Bool) → Result A MergeFault → Bool
fails_by test (Ok a) = false
fails_by test (Err fault) = test fault.fault

-- one of the readers has failed
abbrev pub any_failed : {R : Type 0} → List (Flagged R) → Option (Flagged R) → Bool
any_failed tables expected = list_any has_failed tables || option_map_or has_failed expected false
