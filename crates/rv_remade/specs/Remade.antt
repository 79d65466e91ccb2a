-- The run that a row of a hunt's table is told by, made again.
use Rattle.std.specs.Prelude.{ℕ, Bool, ◌==◌, ◌&&◌, Option, option_map, find, List}
use Rattle.rv_explain.specs.Classes.{rank}
use Rattle.rv_explain.specs.Races.{Run, reports}
use Rattle.rv_races.specs.declared.races.Race.{Race}
use Rattle.rv_races.specs.declared.races.Report.{Report}
use Rattle.rv_tables.specs.declared.row.RaceRow.{RaceRow}
use Rattle.rv_report.specs.Races.{same_key}
use Rattle.rv_report.specs.declared.key.Key.{Key}

-- the row says of the report its race, its class, the place of its pause, and the bytes
abbrev pub is_told_by : Key × RaceRow → Report → Bool
is_told_by row report =
    same_key row.0 report.key && rank row.1.class == rank report.class && row.1.entry == report.ending.paused_at && row.1.old == report.ending.old && row.1.new == report.ending.new

-- a race with the row's count, which is told by the report
abbrev pub race_by : Key × RaceRow → Report → Race
race_by row report = record { reports = row.1.count; told = report }

-- the race of a row in a run: it is told by the first report that the row says
unfoldable pub race_in : Run → List (ℕ × ℕ) → Key × RaceRow → Option Race
race_in run ranges row = option_map (race_by row) (find (is_told_by row) (reports run ranges))
