-- The rows of a hunt table, as a function of the whole list of rows that were added to it.
use Rattle.std.specs.Prelude.{ℕ, ◌+◌, min, Bool, Option, Some, None, List, []}
use Rattle.std.specs.List.{fold, list_any}
use Rattle.rv_races.specs.Classes.{rank}
use Rattle.rv_tables.specs.Keyed.{added_by}
use Rattle.rv_tables.specs.declared.row.PartReport.{PartReport}
use Rattle.rv_hart.specs.declared.access.Access.{Access}
use Rattle.rv_tables.specs.declared.row.Accesses.{Accesses}
use Rattle.rv_tables.specs.declared.row.RaceRow.{RaceRow}
use Rattle.rv_collide.specs.declared.ending.Verdict.{Verdict}
use Rattle.rv_collide.specs.declared.ending.Verdict.TheVariants.{Hit, Changed, Quiet}
use Rattle.rv_races.specs.declared.races.Report.{Report}
use Rattle.rv_collide.specs.Counts.{saturated}
use Rattle.rv_report.specs.Races.{same_key}
use Rattle.rv_report.specs.declared.key.Key.{Key}
pub use Rattle.rv_tables.specs.Strongest as strongest

-- A place has 32 bits; that of a run is far less.
abbrev pub saturated_word : ℕ → ℕ
saturated_word n = min n 4_294_967_295

-- the other access by the verdict that a report is judged by
abbrev pub other_of : Verdict → Option Access
other_of (Hit seen) = Some seen.access
other_of Changed = None
other_of Quiet = None

-- the two accesses of a report: of a change the other is its last store, where there is one
abbrev pub accesses_of : Report → Accesses
accesses_of report = record { paused = report.ending.access; other = other_of report.judged }

-- the row of a single report of a run: the place of its pause is that in the run, with the steps of a walk that stand before
abbrev pub row_of : ℕ → PartReport → Key × RaceRow
row_of run it =
    (it.report.key, record { count = 1; class = it.report.class; run = run; part = it.part; entry = saturated_word (it.before + it.report.ending.paused_at); old = it.report.ending.old; new = it.report.ending.new; address = Some it.report.ending.access.first; accesses = Some (accesses_of it.report) })

-- of two rows of a race the one that it is told by: the later only where its class is the stronger
abbrev pub told_by : RaceRow → RaceRow → RaceRow
told_by first later = strongest.first_strongest (first, rank first.class) (later, rank later.class)

-- Two rows of a race made one. A count stays at the largest number of 64 bits once there.
abbrev pub joined : RaceRow → RaceRow → RaceRow
joined first later = record (told_by first later) { count = saturated (first.count + later.count) }

-- A row more: it is joined to that of its race, or comes last where there is none.
abbrev pub added : List (Key × RaceRow) → Key × RaceRow → List (Key × RaceRow)
added = added_by same_key joined

-- the table of rows, in the order of the first row of each race
unfoldable pub table_of : List (Key × RaceRow) → List (Key × RaceRow)
table_of rows = fold added [] rows

-- a table's rows added to another's, in their order
unfoldable pub merged : List (Key × RaceRow) → List (Key × RaceRow) → List (Key × RaceRow)
merged first later = fold added first later

-- the race has a row
abbrev pub has_race : Key → List (Key × RaceRow) → Bool
has_race key rows = list_any (λ (e : Key × RaceRow). same_key key e.0) rows
