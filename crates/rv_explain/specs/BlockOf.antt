-- What is shown of a race of a run: both accesses, and the entries around them.
use Rattle.std.specs.Prelude.{ℕ, ◌+◌, ◌-◌, Bool, ◌==◌, ◌&&◌, min, if◌then◌else◌, Option, option_and_then, option_map, List, [], ◌∷◌, ◌++◌, length, slice_get}
use Rattle.std.specs.List.{fold, range_with_len}
use Rattle.std.specs.Option.{option_to_list}
use Rattle.rv_break.specs.declared.claim.Seen.{Seen}
use Rattle.rv_collide.specs.Made.{made}
use Rattle.rv_collide.specs.StateAt.{state_at}
use Rattle.rv_collide.specs.declared.ending.Ending.{Ending}
use Rattle.rv_debug.specs.Answers.{word_at}
use Rattle.rv_elf.specs.Contents.{Contents}
use Rattle.rv_explain.specs.Blocks.{RaceShown}
use Rattle.rv_explain.specs.Caller.{caller_in}
use Rattle.rv_explain.specs.Meeting.{is_within, met}
use Rattle.rv_explain.specs.Told.{row_of}
use Rattle.rv_explain.specs.declared.block.Side.{Side}
use Rattle.rv_explain.specs.declared.row.Row.{Row}
use Rattle.rv_explain.specs.declared.row.Shown.{Shown}
use Rattle.rv_explain.specs.declared.row.Shown.TheVariants as shown
use Rattle.rv_hart.specs.State.{State}
use Rattle.rv_hart.specs.declared.access.Access.{Access}
use Rattle.rv_races.specs.Races.{Run}
use Rattle.rv_races.specs.Judged.{last_store}
use Rattle.rv_races.specs.Second.{second_of}
use Rattle.rv_races.specs.Stretches.{is_shown}
use Rattle.rv_races.specs.declared.races.Race.{Race}

-- ---- the other hart's access

-- the second access, by the last store
unfoldable pub second : Run → Ending → Seen
second run told = second_of told (last_store run told) told.verdict

-- ---- the two sides

-- A side in a state: the word that memory has at its instruction's address, and where it was called from.
unfoldable pub side_in : Contents → ℕ → Access → Option State → Side
side_in image h access s = record {
  hart = h;
  access = access;
  word = option_and_then (λ (now : State). word_at now.memory access.pc) s;
  caller = option_and_then (caller_in image h access.pc) s;
}

-- a side at a place, before what happens there
abbrev pub side : Run → ℕ → ℕ → Access → Side
side run place h access = side_in run.image h access (state_at run.start run.entries place)

-- ---- what it is about

-- what a block is about: the pause, the second access, the end, and the last store to the bytes
abbrev pub places_about : Ending → Seen → Option Seen → List ℕ
places_about told other last =
    told.paused_at ∷ other.place ∷ told.resumed_at ∷ option_to_list (option_map (λ (store : Seen). store.place) last)

-- ---- the lines

abbrev pub row_between : Run → Access → ℕ → State → State → Option Row
row_between run paused at before later = option_map (λ entry. row_of paused at entry before later) (slice_get run.entries at)

-- the row of an entry
unfoldable pub row_at : Run → Access → ℕ → Option Row
row_at run paused at =
    option_and_then (λ before. option_and_then (row_between run paused at before) (state_at run.start run.entries (at + 1))) (state_at run.start run.entries at)

-- an access within the pause meets the bytes
unfoldable pub meets_at : Run → Ending → ℕ → Bool
meets_at run told at = is_within told at && met told.access (made run.start run.entries at)

-- The lines so far, how many entries were left out since the last of them, and how many of those meet the bytes.
pub record Lines : Type 0 where
  pub lines : List Shown
  pub hidden : ℕ
  pub meeting : ℕ

-- entries that are left out are counted in front of the next that is shown
abbrev pub with_gap : Lines → List Shown
with_gap l = if l.hidden == 0 then l.lines else l.lines ++ shown.Gap l.hidden l.meeting ∷ []

abbrev pub with_row : Lines → Option Row → Lines
with_row l row = record { lines = with_gap l ++ option_to_list (option_map (λ r. shown.Row r) row); hidden = 0; meeting = 0 }

abbrev pub with_hidden : Lines → Bool → Lines
with_hidden l meets = record { lines = l.lines; hidden = l.hidden + 1; meeting = l.meeting + (if meets then 1 else 0) }

-- the lines when one place more is passed
abbrev pub with_place : Run → ℕ → Ending → List ℕ → Lines → ℕ → Lines
with_place run around told places l at =
    if is_shown around places at then with_row l (row_at run told.access at) else with_hidden l (meets_at run told at)

abbrev pub no_lines : Lines
no_lines = record { lines = []; hidden = 0; meeting = 0 }

-- of so many places, from one on
unfoldable pub lines_from : Run → ℕ → Ending → List ℕ → ℕ → ℕ → Lines
lines_from run around told places from count = fold (with_place run around told places) no_lines (range_with_len from count)

-- the first place that may be shown, and the place after the last
abbrev pub first_shown : ℕ → Ending → ℕ
first_shown around told = told.paused_at - around

abbrev pub end_shown : Run → ℕ → Ending → ℕ
end_shown run around told = min (length run.entries) (told.resumed_at + around + 1)

-- all lines: from so many entries before the pause to so many after its end
unfoldable pub lines : Run → ℕ → Ending → List ℕ → List Shown
lines run around told places =
    (lines_from run around told places (first_shown around told) (end_shown run around told - first_shown around told)).lines

-- ---- the block

-- with the second access and the last store
unfoldable pub shown_with : Run → ℕ → Race → Seen → Option Seen → RaceShown
shown_with run around race other last = record {
  reports = race.reports;
  class = race.told.class;
  number = race.told.number;
  ending = race.told.ending;
  paused = side run race.told.ending.paused_at race.told.ending.hart race.told.ending.access;
  other = side run other.place other.hart other.access;
  second = other.place;
  lines = lines run around race.told.ending (places_about race.told.ending other last);
}

-- What is shown of a race, by the report that it is told by, with so many entries around each place.
unfoldable pub race_shown : Run → ℕ → Race → RaceShown
race_shown run around race =
    shown_with run around race (second run race.told.ending) (last_store run race.told.ending)
