-- A run that a seed drives: every entry follows from the ones before it.
use Rattle.std.specs.Prelude.{◌≡◌, ℕ, ◌%◌, Bool, true, false, Option, option_map, option_and_then, List, length, slice_get, take}
use Rattle.std.specs.Result.{result_ok}
use Rattle.std.specs.Option.{option_or}
use Rattle.rv_drive.specs.Able.{able, due}
use Rattle.rv_drive.specs.Draws.{Sampling, next_index, owed}
use Rattle.rv_collide.specs.Forced.{Setting, Turn, forced}
use Rattle.rv_collide.specs.declared.entry.Entry.{Entry}
use Rattle.rv_collide.specs.declared.entry.Entry.TheVariants.{Stepped, Paused, Resumed, Armed, Disarmed}

-- In a seeded run a turn takes a word, which picks its hart, and a resumption takes one for its draw.
abbrev pub turns_and_resumptions : Entry → Bool
turns_and_resumptions (Stepped hart) = true
turns_and_resumptions (Paused hart slot) = true
turns_and_resumptions (Resumed hart) = true
turns_and_resumptions (Armed address) = false
turns_and_resumptions (Disarmed address) = false

-- the able hart at index word modulo their count, or none where no hart is able
unfoldable pub picked_hart : Setting → List Entry → ℕ → Option ℕ
picked_hart setting entries word = slice_get (able setting entries) (word % length (able setting entries))

-- the turn of the able hart that the next word picks
unfoldable pub turn_drawn : Setting → Sampling → List Entry → Option Entry
turn_drawn setting sampling entries =
    option_and_then (λ hart. result_ok (forced setting entries (Turn hart)))
    (picked_hart setting entries (sampling.word_at (next_index turns_and_resumptions entries)))

-- What a seeded run adds at the list's end: what the draws add; else the lowest hart whose pause is due is
-- resumed; else an able hart takes a turn; else nothing, and the run is over.
unfoldable pub driven : Setting → Sampling → List Entry → Option Entry
driven setting sampling entries =
    option_or (owed setting sampling turns_and_resumptions entries)
    (option_or (option_map Resumed (due setting entries)) (turn_drawn setting sampling entries))

-- The list is a whole seeded run: at each place, the end among them, stands what the run adds there.
abbrev pub IsDrawn : Setting → Sampling → List Entry → Type 0
IsDrawn setting sampling entries = (place : ℕ) → slice_get entries place ≡ driven setting sampling (take place entries)
