-- The table of a file's bytes, or why they are refused.
use Rattle.std.specs.Prelude.{ℕ, Result, List}
use Rattle.rv_faults.specs.Fault.{unless_long}
use Rattle.rv_tables.specs.OriginRead.{read_hunt, read_rows}
use Rattle.rv_tables.specs.declared.origin_line.ReadTable.{ReadTable}
use Rattle.rv_tables.specs.declared.row.RaceRow.{RaceRow}
use Rattle.rv_memory.specs.Chain.{◌>>=◌}
use Rattle.rv_tables.specs.merge.FileFault.{plainly, told_table}
use Rattle.rv_tables.specs.declared.merge.fault.FileFault.{FileFault}
use Rattle.rv_report.specs.declared.key.Key.{Key}

-- the rows of a hunt table, and what it is of; or why the bytes are refused: they are too many, and else the text's first fault
unfoldable pub hunt_table : List ℕ → Result ReadTable FileFault
hunt_table bytes = do
  text ← plainly (unless_long bytes)
  told_table (read_hunt text)

-- the rows of a table that says which races are expected: a hunt table, or one of `run`
abbrev pub expected_rows : List ℕ → Result (List (Key × RaceRow)) FileFault
expected_rows text = told_table (read_rows text)

-- the same of the bytes of a file, which may be too many
unfoldable pub expected_table : List ℕ → Result (List (Key × RaceRow)) FileFault
expected_table bytes = do
  text ← plainly (unless_long bytes)
  expected_rows text
