-- What is shown of a run, as the code finds it entry by entry.
use Rattle.std.proofs.Common.{◌≡◌, ℕ, zero, suc, ◌+◌, ◌-◌, ◌<◌, ◌≤◌, Bool, true, false, List, [], ◌∷◌, ◌++◌, Option, Some, None, Result, Ok, Err, map, get_or, take, refl, ap, sym, subst, ◌∙◌, append_assoc, append-nil, arith}
use Rattle.std.specs.Prelude.{◌&&◌, IfOk, IfSome, IsSomeAnd, filter_map, option_and_then, option_map, length, slice_get, unwrap_or}
use Rattle.std.specs.List.{fold, range_with_len}
use Rattle.std.specs.Option.{option_map_or}
use Rattle.std.proofs.lemmas.Bool.Decides.{nat_tests}
use Rattle.rv_break.specs.declared.claim.Seen.{Seen}
use Rattle.rv_collide.specs.Answers.{pause_of}
use Rattle.rv_collide.specs.Entries.{between, stepped_at}
use Rattle.rv_collide.specs.First.{seen_at}
use Rattle.rv_collide.specs.Made.{made}
use Rattle.rv_collide.specs.Pause.{within}
use Rattle.rv_collide.specs.StateAt.{state_at}
use Rattle.rv_collide.specs.declared.ending.Ending.{Ending}
use Rattle.rv_collide.specs.declared.entry.Entry.{Entry}
use Rattle.rv_debug.specs.Placed.{Placed, moved}
use Rattle.rv_explain.proofs.Ranges.{fold_found_to, fold_to, map_to}
use Rattle.rv_explain.specs.BlockOf.{Lines, lines, lines_from, meets_at, no_lines, places_about, race_shown, row_at, row_between, second, shown_with, side, with_place}
use Rattle.rv_races.specs.Judged.{last_store, store_or}
use Rattle.rv_explain.specs.Meeting.{is_within}
use Rattle.rv_explain.specs.Told.{IsRow, row_of}
use Rattle.rv_explain.specs.declared.block.Side.{Side}
use Rattle.rv_explain.specs.declared.row.Row.{Row}
use Rattle.rv_explain.specs.declared.row.Shown.{Shown}
use Rattle.rv_hart.specs.State.{State}
use Rattle.rv_hart.specs.declared.access.Access.{Access}
use Rattle.rv_memory.specs.declared.store.NoMemory.{NoMemory}
use Rattle.rv_races.specs.Races.{Run, run_of}
use Rattle.rv_races.specs.Second.{second_of}
use Rattle.rv_races.specs.declared.races.Race.{Race}
use Rattle.rv_report.specs.Exhibit.{writes_over}

-- ---- rows

row_case : (run : Run) (paused : Access) (at : ℕ) (entry : Entry) (row : Row) (before later : Option State) → slice_get run.entries at ≡ Some entry → IsSomeAnd before (λ b. IsSomeAnd later (λ l. row ≡ row_of paused at entry b l)) → option_and_then (λ b. option_and_then (row_between run paused at b) later) before ≡ Some row
row_case run paused at entry row (Some b) (Some l) there is = rw there (ap (λ (r : Row). Some r) (sym is))
row_case run paused at entry row (Some b) None there is = absurd is
row_case run paused at entry row None later there is = absurd is

-- the row that is told of an entry is the one of its place
pub row_is : (p : Placed) (entry : Entry) (paused : Access) (row : Row) → slice_get p.entries p.place ≡ Some entry → IsRow p entry paused row → row_at (run_of p) paused p.place ≡ Some row
unfolding row_at
row_is p entry paused row there is =
    row_case (run_of p) paused p.place entry row (state_at (run_of p).start p.entries p.place) (state_at (run_of p).start p.entries (p.place + 1)) there is

-- ---- meetings

get_mapped : {X : Type 0} → (f : ℕ → X) (a n i : ℕ) → i < n → slice_get (map f (range_with_len a n)) i ≡ Some (f (a + i))
get_mapped f a zero i below = absurd (omega arith)
get_mapped f a (suc n) zero below = let same : a ≡ a + 0 = omega arith in ap (λ (k : ℕ). Some (f k)) same
get_mapped f a (suc n) (suc i) below =
    let same : a + 1 + i ≡ a + suc i = omega arith in
    get_mapped f (a + 1) n i (omega arith) ∙ ap (λ (k : ℕ). Some (f k)) same

within_case : (run : Run) (told : Ending) (meets : List Bool) (at : ℕ) (b : Bool) → meets ≡ map (meets_at run told) (within (pause_of told)) → is_within told at ≡ b → (b && unwrap_or (slice_get meets (at - told.paused_at - 1)) false) ≡ meets_at run told at
unfolding meets_at within between
within_case run told meets at false knows is = rw is refl
within_case run told meets at true knows is =
    let below : at - told.paused_at - 1 < told.resumed_at - (told.paused_at + 1) = grind (arith, nat_tests) in
    let there : told.paused_at + 1 + (at - told.paused_at - 1) ≡ at = grind (arith, nat_tests) in
    rw (knows, get_mapped (meets_at run told) (told.paused_at + 1) (told.resumed_at - (told.paused_at + 1)) (at - told.paused_at - 1) below, there) refl

-- an entry meets the bytes where that is told of it
pub meets_there : (run : Run) (told : Ending) (meets : List Bool) (at : ℕ) → meets ≡ map (meets_at run told) (within (pause_of told)) → (is_within told at && unwrap_or (slice_get meets (at - told.paused_at - 1)) false) ≡ meets_at run told at
meets_there run told meets at knows = within_case run told meets at (is_within told at) knows refl

-- ---- the walk over a pause

-- the last store when one place more is passed
pub last_passed : (p q : Placed) (told : Ending) (place : ℕ) (old new' : Option Seen) → q ≡ moved p place → told.paused_at + 1 ≤ place
    → old ≡ fold (store_or told.access) None (filter_map (seen_at (run_of p).start p.entries) (range_with_len (told.paused_at + 1) (place - (told.paused_at + 1))))
    → new' ≡ option_map_or (store_or told.access old) (seen_at (run_of q).start q.entries q.place) old
    → new' ≡ fold (store_or told.access) None (filter_map (seen_at (run_of p).start p.entries) (range_with_len (told.paused_at + 1) (place + 1 - (told.paused_at + 1))))
last_passed p q told place old new' here le before passed =
    (rw (here, before) at passed) ∙ sym (fold_found_to (store_or told.access) None (seen_at (run_of p).start p.entries) (told.paused_at + 1) place le)

-- and which entries meet the bytes
pub meets_passed : (p q : Placed) (told : Ending) (place : ℕ) (old new' : List Bool) → q ≡ moved p place → told.paused_at + 1 ≤ place
    → old ≡ map (meets_at (run_of p) told) (range_with_len (told.paused_at + 1) (place - (told.paused_at + 1)))
    → new' ≡ old ++ meets_at (run_of q) told q.place ∷ []
    → new' ≡ map (meets_at (run_of p) told) (range_with_len (told.paused_at + 1) (place + 1 - (told.paused_at + 1)))
meets_passed p q told place old new' here le before passed =
    (rw (here, before) at passed) ∙ sym (map_to (meets_at (run_of p) told) (told.paused_at + 1) place le)

seen_case : (place : ℕ) (h : Option ℕ) (m : Option Access) → IfSome (option_and_then (λ hart. option_map (λ access. record { place = place; hart = hart; access = access }) m) h) (λ (s : Seen). s.place ≡ place)
seen_case place None m = tt
seen_case place (Some hart) None = tt
seen_case place (Some hart) (Some access) = refl

seen_place : (run : Run) (place : ℕ) → IfSome (seen_at run.start run.entries place) (λ (s : Seen). s.place ≡ place)
unfolding seen_at
seen_place run place = seen_case place (stepped_at run.entries place) (made run.start run.entries place)

earlier : (place : ℕ) (old : Option Seen) → IfSome old (λ (s : Seen). s.place < place) → IfSome old (λ (s : Seen). s.place < place + 1)
earlier place None below = tt
earlier place (Some s) below = omega arith

store_case : (paused : Access) (place : ℕ) (old : Option Seen) (s : Seen) (b : Bool) → writes_over paused s.access ≡ b → IfSome old (λ (s : Seen). s.place < place) → s.place ≡ place → IfSome (store_or paused old s) (λ (s : Seen). s.place < place + 1)
store_case paused place old s true is below at = let le : s.place < place + 1 = omega arith in rw is le
store_case paused place old s false is below at = rw is (earlier place old below)

before_case : (paused : Access) (place : ℕ) (old seen : Option Seen) → IfSome old (λ (s : Seen). s.place < place) → IfSome seen (λ (s : Seen). s.place ≡ place) → IfSome (option_map_or (store_or paused old) seen old) (λ (s : Seen). s.place < place + 1)
before_case paused place old None below at = earlier place old below
before_case paused place old (Some s) below at = store_case paused place old s (writes_over paused s.access) refl below at

-- it stands before the next place
pub before_passed : (p q : Placed) (told : Ending) (place : ℕ) (old new' : Option Seen) → q ≡ moved p place
    → IfSome old (λ (s : Seen). s.place < place) → new' ≡ option_map_or (store_or told.access old) (seen_at (run_of q).start q.entries q.place) old → IfSome new' (λ (s : Seen). s.place < place + 1)
before_passed p q told place old new' here below passed =
    rw (rw here at passed) (before_case told.access place old (seen_at (run_of p).start p.entries place) below (seen_place (run_of p) place))

-- ---- the lines

pub lines_more : (run : Run) (around : ℕ) (told : Ending) (places : List ℕ) (from at : ℕ) → from ≤ at → lines_from run around told places from (at + 1 - from) ≡ with_place run around told places (lines_from run around told places from (at - from)) at
unfolding lines_from
lines_more run around told places from at le = fold_to (with_place run around told places) no_lines from at le

-- the lines when one place more is passed
pub lines_passed : (p q : Placed) (around : ℕ) (told : Ending) (places : List ℕ) (from at : ℕ) (old new' : Lines) → q ≡ moved p q.place → from ≤ at
    → old ≡ lines_from (run_of p) around told places from (at - from)
    → new' ≡ with_place (run_of q) around told places old at
    → new' ≡ lines_from (run_of p) around told places from (at + 1 - from)
lines_passed p q around told places from at old new' same le before passed =
    passed ∙ ap (λ (r : Placed). with_place (run_of r) around told places old at) same
    ∙ ap (λ (l : Lines). with_place (run_of p) around told places l at) before
    ∙ sym (lines_more (run_of p) around told places from at le)

-- ---- the block

pub block_is : (run : Run) (around : ℕ) (race : Race) (other : Seen) (last : Option Seen) (one another : Side) (ls : List Shown)
    → last ≡ last_store run race.told.ending → other ≡ second_of race.told.ending last race.told.ending.verdict
    → one ≡ side run race.told.ending.paused_at race.told.ending.hart race.told.ending.access
    → another ≡ side run other.place other.hart other.access
    → ls ≡ lines run around race.told.ending (places_about race.told.ending other last)
    → record { reports = race.reports; class = race.told.class; number = race.told.number; ending = race.told.ending; paused = one; other = another; second = other.place; lines = ls } ≡ race_shown run around race
unfolding race_shown second shown_with
block_is run around race other last one another ls is_last is_other is_one is_another is_lines =
    rw (is_one, is_another, is_lines, is_other, is_last) refl

-- the row of an entry, from a session that stands there
pub row_found : (p q : Placed) (at : ℕ) (entry : Entry) (paused : Access) (r : Result Row NoMemory) → q ≡ moved p at → slice_get q.entries q.place ≡ Some entry → IfOk r (λ row. IsRow q entry paused row) → IfOk r (λ row. row_at (run_of p) paused at ≡ Some row)
row_found p q at entry paused (Err fault) here there is = tt
row_found p q at entry paused (Ok row) here there is = row_is (moved p at) entry paused row (rw here at there) (rw here at is)

-- before the first place there is no line
pub none_yet : (run : Run) (around : ℕ) (told : Ending) (places : List ℕ) (from : ℕ) → no_lines ≡ lines_from run around told places from (from - from)
unfolding lines_from
none_yet run around told places from = let same : from - from ≡ 0 = omega arith in rw same refl
