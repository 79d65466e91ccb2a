-- The stored schedule: a list of entries, numbered from 0. Place i is the moment after the first i of them.
use Rattle.std.specs.Prelude.{ℕ, ◌+◌, ◌-◌, Option, Some, None, option_and_then, List, length, slice_get, filter_map}
use Rattle.std.specs.List.{range_with_len}
use Rattle.rv_collide.specs.declared.entry.Entry.{Entry}
use Rattle.rv_collide.specs.declared.entry.Entry.TheVariants.{Stepped, Paused, Resumed, Armed, Disarmed}

-- the hart that makes a step at an entry
abbrev pub stepped_hart : Entry → Option ℕ
stepped_hart (Stepped hart) = Some hart
stepped_hart (Paused hart slot) = None
stepped_hart (Resumed hart) = None
stepped_hart (Armed address) = None
stepped_hart (Disarmed address) = None

-- the harts of a list's steps, in their order
unfoldable pub steps : List Entry → List ℕ
steps entries = filter_map stepped_hart entries

-- the hart that makes a step at a place
unfoldable pub stepped_at : List Entry → ℕ → Option ℕ
stepped_at entries place = option_and_then stepped_hart (slice_get entries place)

-- the places of a list's entries
unfoldable pub places : List Entry → List ℕ
places entries = range_with_len 0 (length entries)

-- the places after one and before another
unfoldable pub between : ℕ → ℕ → List ℕ
between first last = range_with_len (first + 1) (last - (first + 1))
