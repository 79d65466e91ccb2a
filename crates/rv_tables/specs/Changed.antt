-- Changed reports, each by its own race and by that of the pair of instructions that it is judged by.
use Rattle.std.specs.Prelude.{ℕ, ◌&&◌, Bool, Option, Some, None, is_some, if◌then◌else◌, List, []}
use Rattle.std.specs.List.{fold}
use Rattle.std.specs.Option.{unwrap_or}
use Rattle.rv_tables.specs.Keyed.{added_by}
use Rattle.rv_tables.specs.Rows.{joined, row_of}
use Rattle.rv_tables.specs.declared.changed.ChangedKey.{ChangedKey}
use Rattle.rv_tables.specs.declared.row.PartReport.{PartReport}
use Rattle.rv_tables.specs.declared.row.RaceRow.{RaceRow}
use Rattle.rv_races.specs.declared.races.Report.{Report}
use Rattle.rv_report.specs.Races.{key_of, same_key}
use Rattle.rv_report.specs.declared.key.Key.{Key}

-- The race of a report's access and of the store that it is judged by; its own race, where no store is named.
abbrev pub pair_of : Report → Key
pair_of report = unwrap_or (key_of report.ending.access report.judged) report.key

abbrev pub key_for : Report → ChangedKey
key_for report = record { own = report.key; pair = pair_of report }

abbrev pub same_changed : ChangedKey → ChangedKey → Bool
same_changed one other = same_key one.own other.own && same_key one.pair other.pair

-- a report's row, where it only found its bytes changed: then its race is of one instruction
abbrev pub row_if : ℕ → PartReport → Option (ChangedKey × RaceRow)
row_if run it = if is_some it.report.key.second then None else Some (key_for it.report, (row_of run it).1)

-- a row more: it is joined to that of its own race and its pair, or comes last where there is none
abbrev pub added : List (ChangedKey × RaceRow) → ChangedKey × RaceRow → List (ChangedKey × RaceRow)
added = added_by same_changed joined

-- all rows of changed reports, those of one race and one pair made one
unfoldable pub changed_of : List (ChangedKey × RaceRow) → List (ChangedKey × RaceRow)
changed_of rows = fold added [] rows
