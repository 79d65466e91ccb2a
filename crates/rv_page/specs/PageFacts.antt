-- What the page of a hunt shows beside its texts: the places that it has, its links, and its numbers. Each function puts what a
-- part shows before what was shown so far, so that the last stands first.
use Rattle.std.specs.Prelude.{ℕ, zero, suc, ◌+◌, ◌==◌, ◌&&◌, Bool, true, false, nat_le, if◌then◌else◌, List, [], ◌∷◌, length, take}
use Rattle.std.specs.List.{fold}
use Rattle.rv_races.specs.declared.classes.RaceClass.TheVariants.{Named}
use Rattle.rv_search.specs.EndedRows.{ended_rows}
use Rattle.rv_tables.specs.Near.{unmet}
use Rattle.rv_shown.specs.Outcome.{Outcome, sampled_numbers, walk_numbers}
use Rattle.rv_search.specs.Tally.{Ended as HowEnded}
use Rattle.rv_shown.specs.ToldOrder.{of_class, reports_of}
use Rattle.rv_shown.specs.Warnings.{all_sampled, warnings_of}
use Rattle.rv_search.specs.declared.hunted.Hunted.{Hunted}
use Rattle.rv_tables.specs.declared.near.NearRow.{NearRow}
use Rattle.rv_page.specs.declared.near.TheConstants.{MOST_ROWS}
use Rattle.rv_tables.specs.declared.row.RaceRow.{RaceRow}
use Rattle.rv_search.specs.declared.ended.EndedRow.{EndedRow}
use Rattle.rv_shown.specs.declared.saying.lines.Seen as lines
use Rattle.rv_markup.specs.declared.markup.Fact.{Fact}
use Rattle.rv_markup.specs.declared.markup.Fact.TheVariants.{Target, Link, Number}
use Rattle.rv_markup.specs.declared.tag.Place.TheVariants.{Warnings, Races, Race, Aside, Ended, Seen}
use Rattle.rv_report.specs.declared.key.Key.{Key}
use Rattle.rv_walk.specs.declared.near_pair.Addresses.{Addresses}

-- ---- above the races

abbrev pub links_facts : List Fact → List Fact
links_facts facts = Link Seen ∷ Link Ended ∷ Link Races ∷ facts

-- warnings have a part where there are any
abbrev pub warnings_facts : Outcome → List Fact → List Fact
warnings_facts outcome facts = if length (warnings_of outcome) == 0 then facts else Target Warnings ∷ facts

-- ---- the races

-- a link to race K where it is shown in full, and its number
abbrev pub link_facts : Bool → ℕ → List Fact → List Fact
link_facts true k facts = Number k ∷ Link (Race k) ∷ facts
link_facts false k facts = Number k ∷ facts

-- beside that how many reports it has, and its run
abbrev pub race_row_facts : ℕ → ℕ → Key × RaceRow → List Fact → List Fact
race_row_facts full k race facts = Number race.1.run ∷ Number race.1.count ∷ link_facts (nat_le k full) k facts

-- the rows of races, the first of which is race K
abbrev pub rows_facts_from : ℕ → ℕ → List (Key × RaceRow) → List Fact → List Fact
rows_facts_from full k [] facts = facts
rows_facts_from full k (race ∷ others) facts = rows_facts_from full (k + 1) others (race_row_facts full k race facts)

abbrev pub race_rows_facts : ℕ → List (Key × RaceRow) → List Fact → List Fact
race_rows_facts full told facts = rows_facts_from full 1 told facts

abbrev pub races_facts : ℕ → List (Key × RaceRow) → List Fact → List Fact
races_facts full told facts = race_rows_facts full told (Target Races ∷ facts)

-- race K in full
abbrev pub shown_facts : ℕ → List Fact → List Fact
shown_facts k facts = Number k ∷ Target (Race k) ∷ facts

-- the races up to that number, once each
abbrev pub all_shown_facts : ℕ → List Fact → List Fact
all_shown_facts zero facts = facts
all_shown_facts (suc n) facts = shown_facts (n + 1) (all_shown_facts n facts)

-- ---- below the races

-- how many reports and races were counted and not shown, where there are any
abbrev pub aside_row_facts : List (Key × RaceRow) → List Fact → List Fact
aside_row_facts rows facts = if length rows == 0 then facts else Number (length rows) ∷ Number (reports_of rows) ∷ facts

abbrev pub apart_facts : List (Key × RaceRow) → List (Key × RaceRow) → List Fact → List Fact
apart_facts rows ignored facts =
    let named = of_class Named rows in
    if length named == 0 && length ignored == 0 then facts else aside_row_facts ignored (aside_row_facts named (Target Aside ∷ facts))

abbrev pub aside_facts : Outcome → List Fact → List Fact
aside_facts outcome facts = apart_facts outcome.races outcome.ignored facts

abbrev pub ended_row_facts : List EndedRow → List Fact → List Fact
ended_row_facts rows facts = fold (λ shown (row : EndedRow). Number row.harts ∷ shown) facts rows

abbrev pub ended_facts : HowEnded → List Fact → List Fact
ended_facts ended facts = ended_row_facts (ended_rows ended) (Target Ended ∷ facts)

abbrev pub number_row_facts : List lines.Seen → List Fact → List Fact
number_row_facts numbers facts = fold (λ shown (one : lines.Seen). Number one.number ∷ shown) facts numbers

abbrev pub numbers_facts : List ℕ → List Fact → List Fact
numbers_facts numbers facts = fold (λ shown n. Number n ∷ shown) facts numbers

-- of walks there are rows where not all runs are sampled ones
abbrev pub walk_facts : Bool → Hunted → List Fact → List Fact
walk_facts true saw facts = facts
walk_facts false saw facts = numbers_facts (walk_numbers saw) facts

-- of the near pairs that were not met the first have a row, with the number of their probes
abbrev pub pair_rows_facts : List (Addresses × NearRow) → List Fact → List Fact
pair_rows_facts pairs facts = fold (λ shown (pair : Addresses × NearRow). Number pair.1.tries ∷ shown) facts pairs

abbrev pub near_facts : Hunted → List Fact → List Fact
near_facts saw facts = pair_rows_facts (take MOST_ROWS (unmet saw.table saw.near)) facts

abbrev pub seen_row_facts : ℕ → Bool → Hunted → List Fact → List Fact
seen_row_facts sites sampled saw facts =
    near_facts saw (Number saw.tally.runs ∷ walk_facts sampled saw (numbers_facts (sampled_numbers sites saw.tally) facts))

abbrev pub seen_facts : Outcome → List Fact → List Fact
seen_facts outcome facts = seen_row_facts outcome.sites (all_sampled outcome.mix) outcome.saw (Target Seen ∷ facts)

-- ---- the page

-- what stands below the races
abbrev pub runs_facts : Outcome → List Fact → List Fact
runs_facts outcome facts = seen_facts outcome (ended_facts outcome.saw.tally.ended (aside_facts outcome facts))

-- the races of a table, in the order in which they are told, of which so many are shown in full
abbrev pub told_facts : List (Key × RaceRow) → ℕ → List Fact → List Fact
told_facts told full facts = all_shown_facts full (races_facts full told facts)

-- The page of what a hunt came to.
abbrev pub page_facts : Outcome → List (Key × RaceRow) → ℕ → List Fact
page_facts outcome told full = runs_facts outcome (told_facts told full (warnings_facts outcome (links_facts [])))

-- ---- the page of a table

abbrev pub link_to_races : List Fact → List Fact
link_to_races facts = Link Races ∷ facts

-- warnings of a table have a part
abbrev pub tabled_facts : Bool → List Fact → List Fact
tabled_facts warns facts = if warns then Target Warnings ∷ facts else facts

-- The page of what is told of a table: whether there is a warning, its rows, and those that are ignored; of the races that are told so many
-- are shown in full.
abbrev pub table_facts : Bool → List (Key × RaceRow) → List (Key × RaceRow) → List (Key × RaceRow) → ℕ → List Fact
table_facts warns rows ignored told full = apart_facts rows ignored (told_facts told full (tabled_facts warns (link_to_races [])))
