-- How addresses are armed in a run: by draws of words, each of which picks a site.
use Rattle.std.specs.Prelude.{◌≡◌, ℕ, zero, suc, ◌+◌, ◌-◌, Bool, true, false, not, IsTrue, Option, Some, None, option_and_then, if◌then◌else◌, List, [], ◌++◌, length, slice_get, take, count_by}
use Rattle.std.specs.Result.{result_ok}
use Rattle.std.specs.Option.{option_map_or, option_or, option_to_list}
use Rattle.rv_collide.specs.Forced.{Setting, Arm, forced}
use Rattle.rv_collide.specs.declared.entry.Entry.{Entry}
use Rattle.rv_collide.specs.declared.entry.Entry.TheVariants.{Stepped, Paused, Resumed, Armed, Disarmed}

-- What a run draws: the words of a generator, by index from 0 on, and the site that a word picks, if there is
-- one.
pub record Sampling : Type 0 where
  pub word_at : ℕ → ℕ
  pub site_of : ℕ → Option ℕ

-- What a draw of the word at an index adds at the list's end: it arms the site that the word picks, where that
-- call is accepted. Else it adds nothing, and the word is used up all the same.
unfoldable pub draw : Setting → Sampling → List Entry → ℕ → Option Entry
draw setting sampling entries index =
    option_and_then (λ site. result_ok (forced setting entries (Arm site))) (sampling.site_of (sampling.word_at index))

-- what the first draws of a run add in turn, the words from index 0 on
unfoldable pub draws : Setting → Sampling → ℕ → List Entry
draws setting sampling zero = []
draws setting sampling (suc n) =
    draws setting sampling n ++ option_to_list (draw setting sampling (draws setting sampling n) n)

-- how many draws a run makes before anything else
abbrev pub first_draws : ℕ
first_draws = 16

-- the index of the next word after the first draws and the words that the entries took
abbrev pub next_index : (Entry → Bool) → List Entry → ℕ
next_index takes entries = first_draws + count_by takes entries

abbrev pub is_resumed : Entry → Bool
is_resumed (Resumed hart) = true
is_resumed (Stepped hart) = false
is_resumed (Paused hart slot) = false
is_resumed (Armed address) = false
is_resumed (Disarmed address) = false

-- What a draw directly after a resumption adds, or none where the last entry is no resumption. The word's
-- index counts those that the entries before the resumption took.
unfoldable pub draw_after : Setting → Sampling → (Entry → Bool) → List Entry → Option Entry
draw_after setting sampling takes entries =
    option_and_then (λ last. if is_resumed last then draw setting sampling entries (next_index takes (take (length entries - 1) entries)) else None) (slice_get entries (length entries - 1))

-- What the draws add at the list's end: the entries of the first draws, then one after each resumption, where
-- its draw adds one. `takes` says which entries take a word of their own.
unfoldable pub owed : Setting → Sampling → (Entry → Bool) → List Entry → Option Entry
owed setting sampling takes entries =
    option_or (slice_get (draws setting sampling first_draws) (length entries)) (draw_after setting sampling takes entries)

abbrev pub arms_or_disarms : Entry → Bool
arms_or_disarms (Armed address) = true
arms_or_disarms (Disarmed address) = true
arms_or_disarms (Resumed hart) = false
arms_or_disarms (Stepped hart) = false
arms_or_disarms (Paused hart slot) = false

-- what stands at a place is what the draws add there, or an entry that arms and disarms nothing, or the end
abbrev pub IsOwed : Option Entry → Option Entry → Type 0
IsOwed (Some entry) there = there ≡ Some entry
IsOwed None there = IsTrue (not (option_map_or arms_or_disarms there false))

-- The list's addresses are armed by its draws alone: it begins with what the first draws add, directly after
-- each resumption stands what its draw adds, and nothing else is armed or disarmed.
abbrev pub IsArmedByDraws : Setting → Sampling → (Entry → Bool) → List Entry → Type 0
IsArmedByDraws setting sampling takes entries =
    (place : ℕ) → IsOwed (owed setting sampling takes (take place entries)) (slice_get entries place)
