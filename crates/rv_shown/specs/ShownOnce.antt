-- Each report of a hunt is counted once: with a race that is shown, in full or by its line, with one of class named, or with a
-- row that a line of --ignore fits.
use Rattle.std.specs.Prelude.{◌≡◌, ℕ, ◌+◌, ◌^◌, ◌<◌, List, filter, length, sum_by}
use Rattle.rv_elf.specs.Contents.{Contents}
use Rattle.rv_explain.specs.Naming.{Naming}
use Rattle.rv_races.specs.declared.classes.RaceClass.TheVariants.{Named}
use Rattle.rv_search.specs.Hunt.{Hunt}
use Rattle.rv_search.specs.Hunted.{IsSoFar, rows_from}
use Rattle.rv_tables.specs.ShownRows.{shown_rows}
use Rattle.rv_shown.specs.ToldOrder.{AreInOrder, of_class}
use Rattle.rv_search.specs.declared.hunted.Hunted.{Hunted}
use Rattle.rv_tables.specs.declared.merge.ignore.Line.{Line}
use Rattle.rv_tables.specs.declared.orders.OrderRow.{OrderRow}
use Rattle.rv_tables.specs.declared.row.RaceRow.{RaceRow}
use Rattle.rv_tables.specs.merge.Ignore.{is_ignored, is_told}
use Rattle.rv_report.specs.declared.key.Key.{Key}

-- Whatever is summed over races, as the reports that they count, or one for a race: those that are shown one by one and those of
-- class named have together what all have.
abbrev pub EachIsShownOnce : Type 0
EachIsShownOnce =
    (image : Contents) (orders : List (Key × OrderRow)) (races told : List (Key × RaceRow)) (weight : Key × RaceRow → ℕ)
    → AreInOrder image orders races told
    → sum_by weight told + sum_by weight (of_class Named races) ≡ sum_by weight races

abbrev pub count_of : Key × RaceRow → ℕ
count_of row = row.1.count

-- So many reports, a row for each of which was added, are counted: those that runs saw, where they are not beyond all measure.
abbrev pub EachIsCountedOnce : Type 0
EachIsCountedOnce =
    (hunt : Hunt) (hunted : Hunted) (so_far : IsSoFar hunt hunted) (naming : Naming) (lines : List Line) (told : List (Key × RaceRow))
    → let reports = rows_from hunt.first so_far.runs in
    let races = shown_rows (filter (is_told naming lines) hunted.table) hunted.changed in
    length reports < 2 ^ 63 → AreInOrder naming.image hunted.orders races told
    → sum_by count_of told + (sum_by count_of (of_class Named races) + sum_by count_of (filter (is_ignored naming lines) hunted.table)) ≡ length reports
