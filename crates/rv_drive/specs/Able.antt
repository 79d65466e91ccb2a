-- Which harts may be given a turn, which pauses are due to end, and when a run is over.
use Rattle.std.specs.Prelude.{◌≡◌, ℕ, ◌==◌, ◌&&◌, ◌||◌, Bool, false, not, nat_le, nat_lt, is_some, IsTrue, Option, Some, List, [], length, slice_get, take, drop, filter, find, count_by}
use Rattle.std.specs.List.{list_any, range_with_len}
use Rattle.std.specs.Option.{option_map_or}
use Rattle.rv_collide.specs.Entries.{steps}
use Rattle.rv_collide.specs.Forced.{Setting}
use Rattle.rv_collide.specs.Next.{runs_at}
use Rattle.rv_collide.specs.Pause.{Opening, openings, opening_of}
use Rattle.rv_collide.specs.declared.entry.Entry.{Entry}
use Rattle.rv_collide.specs.declared.entry.Entry.TheVariants.{Resumed}

-- at the list's end the hart runs, is not paused, and steps are left
unfoldable pub is_able : Setting → List Entry → ℕ → Bool
is_able setting entries hart =
    runs_at setting.start entries (length entries) hart && not (is_some (opening_of entries hart)) && nat_lt (length (steps entries)) setting.plan.steps

-- the able harts, in ascending order
unfoldable pub able : Setting → List Entry → List ℕ
able setting entries = filter (is_able setting entries) (range_with_len 0 setting.plan.harts)

-- how many steps other harts have made since a hart's pause
unfoldable pub others_steps : List Entry → Opening → ℕ
others_steps entries opening = count_by (λ hart. not (hart == opening.hart)) (steps (drop opening.place entries))

-- a hart other than this one is able
unfoldable pub another_is_able : Setting → List Entry → ℕ → Bool
another_is_able setting entries hart = list_any (λ other. not (other == hart)) (able setting entries)

-- The hart's pause is due to end: other harts have made as many steps since as the plan wants, or no other
-- hart is able.
unfoldable pub is_due : Setting → List Entry → ℕ → Bool
is_due setting entries hart =
    option_map_or (λ opening. nat_le setting.plan.pause (others_steps entries opening) || not (another_is_able setting entries hart)) (opening_of entries hart) false

-- the lowest hart whose pause is due
unfoldable pub due : Setting → List Entry → Option ℕ
due setting entries = find (is_due setting entries) (range_with_len 0 setting.plan.harts)

-- each pause was due at the place where it ended
abbrev pub IsLong : Setting → List Entry → Type 0
IsLong setting entries =
    (place hart : ℕ) → slice_get entries place ≡ Some (Resumed hart) → IsTrue (is_due setting (take place entries) hart)

-- at the list's end no pause is open and no hart is able
pub record HasEnded (setting : Setting) (entries : List Entry) : Type 0 where
  pub none_open : openings entries ≡ []
  pub none_able : able setting entries ≡ []
