-- The last stores of pauses, as they are found in a table of what each entry of the run accessed.
use Rattle.std.specs.Prelude.{ℕ, Option, None, option_and_then, option_map, List, length, map, filter_map, slice_get}
use Rattle.std.specs.List.{fold, range_with_len}
use Rattle.rv_break.specs.declared.claim.Seen.{Seen}
use Rattle.rv_collide.specs.Answers.{pause_of}
use Rattle.rv_collide.specs.First.{seen_at}
use Rattle.rv_collide.specs.Pause.{within}
use Rattle.rv_collide.specs.declared.ending.Ending.{Ending}
use Rattle.rv_collide.specs.declared.entry.Entry.{Entry}
use Rattle.rv_hart.specs.NextAccess.{next_access}
use Rattle.rv_hart.specs.State.{State}
use Rattle.rv_races.specs.Judged.{judged_by, store_or}
use Rattle.rv_races.specs.declared.judged.Judged.{Judged}

-- what a hart's step accesses, as a report names it
unfoldable pub seen_by : State → ℕ → Option ℕ → Option Seen
seen_by s place hart =
    option_and_then (λ h. option_map (λ access. record { place = place; hart = h; access = access }) (next_access s h)) hart

-- what each entry accessed
unfoldable pub made_in : State → List Entry → List (Option Seen)
made_in start entries = map (seen_at start entries) (range_with_len 0 (length entries))

abbrev pub made_at : List (Option Seen) → ℕ → Option Seen
made_at made place = option_and_then (λ (seen : Option Seen). seen) (slice_get made place)

-- the last store within the pause, by such a table
unfoldable pub last_among : List (Option Seen) → Ending → Option Seen
last_among made told = fold (store_or told.access) None (filter_map (made_at made) (within (pause_of told)))

abbrev pub judged_with : List (Option Seen) → Ending → Judged
judged_with made told = record { ending = told; verdict = judged_by (last_among made told) told.verdict }
