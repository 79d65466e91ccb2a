-- What is counted of a run.
use Rattle.std.specs.Prelude.{◌≡◌, ℕ, Bool, true, false, Option, Some, None, is_some, List, [], map, filter_map, count_by, length}
use Rattle.std.specs.List.{fold, list_any}
use Rattle.std.specs.Option.{option_map_or}
use Rattle.rv_collide.specs.Answers.{pause_of}
use Rattle.rv_collide.specs.Entries.{stepped_at, steps}
use Rattle.rv_collide.specs.Numbers.{numbers}
use Rattle.rv_collide.specs.Pause.{within}
use Rattle.rv_collide.specs.StateAt.{state_at}
use Rattle.rv_collide.specs.declared.collider.Finished.{Finished}
use Rattle.rv_collide.specs.declared.ending.Ending.{Ending}
use Rattle.rv_collide.specs.declared.ending.Verdict.{Verdict}
use Rattle.rv_collide.specs.declared.ending.Verdict.TheVariants.{Hit, Changed, Quiet}
use Rattle.rv_collide.specs.declared.entry.Entry.{Entry}
use Rattle.rv_collide.specs.declared.entry.Entry.TheVariants.{Stepped, Paused, Resumed, Armed, Disarmed}
use Rattle.rv_hart.specs.State.{State}
use Rattle.rv_hart.specs.declared.hart.Hart.{Hart}
use Rattle.rv_hart.specs.declared.hart.Status.{Status}
use Rattle.rv_hart.specs.declared.hart.Status.TheVariants as status
use Rattle.rv_search.specs.Sums.{no_counts, sum}
use Rattle.rv_search.specs.declared.tally.counts.Counts.{Counts}
use Rattle.rv_search.specs.declared.end.End.{End}
use Rattle.rv_search.specs.declared.end.End.TheVariants as end
use Rattle.rv_search.specs.declared.summary.Summary.{Summary}
use Rattle.rv_walk.specs.Walked.{Walked}
use Rattle.rv_walk.specs.declared.probes.Part.{Part}

-- ---- how its harts ended

-- a hart that still runs when its run is over has no steps left
abbrev pub end_with : Status → ℕ → End
end_with (status.Exited code) pc = end.Exited code
end_with (status.Stopped cause) pc = end.Stopped cause pc
end_with status.Running pc = end.OutOfSteps

abbrev pub end_of : Hart → End
end_of hart = end_with hart.status hart.pc

-- how the harts ended that schedule entries lead to, in their order
unfoldable pub ends : State → List Entry → List End
ends start entries = option_map_or (λ (s : State). map end_of s.harts) (state_at start entries (length entries)) []

-- ---- what was armed, and what its pauses have shown

abbrev pub armed_address : Entry → Option ℕ
armed_address (Armed address) = Some address
armed_address (Disarmed address) = None
armed_address (Stepped hart) = None
armed_address (Paused hart slot) = None
armed_address (Resumed hart) = None

unfoldable pub armed_in : List Entry → List ℕ
armed_in entries = filter_map armed_address entries

abbrev pub paused_at : Ending → ℕ
paused_at e = e.access.pc

abbrev pub is_quiet : Verdict → Bool
is_quiet Quiet = true
is_quiet Changed = false
is_quiet (Hit seen) = false

abbrev pub is_changed : Verdict → Bool
is_changed Quiet = false
is_changed Changed = true
is_changed (Hit seen) = false

abbrev pub is_hit : Verdict → Bool
is_hit Quiet = false
is_hit Changed = false
is_hit (Hit seen) = true

abbrev pub is_unwatched : Option ℕ → Bool
is_unwatched None = true
is_unwatched (Some slot) = false

-- A hart makes a step within the pause; it is another one, since a paused hart makes none.
unfoldable pub has_step_within : List Entry → Ending → Bool
has_step_within entries e = list_any (λ place. is_some (stepped_at entries place)) (within (pause_of e))

-- ---- all of it

-- the numbers of a schedule whose pauses ended so
abbrev pub counts_of : List Entry → List Ending → Counts
counts_of entries ended = record {
  steps = length (steps entries);
  quiet = count_by (λ e. is_quiet e.verdict) ended;
  hit = count_by (λ e. is_hit e.verdict) ended;
  changed = count_by (λ e. is_changed e.verdict) ended;
  unwatched = count_by (λ e. is_unwatched e.slot) ended;
  passed = count_by (has_step_within entries) ended;
}

-- What is counted of a sampled run from that state on.
pub record IsSampledSummary (start : State) (left : Finished) (s : Summary) : Type 0 where
  pub most_steps : s.most_steps ≡ (numbers left.plan).steps
  pub ends_are : s.ends.items ≡ ends start left.entries.items
  pub armed_are : s.armed.items ≡ armed_in left.entries.items
  pub paused_are : s.paused.items ≡ map paused_at left.endings.items
  pub counts_are : s.counts ≡ counts_of left.entries.items left.endings.items
  pub sampled_are : s.sampled ≡ s.counts
  pub probes_are : s.probes ≡ 0
  pub walk_is : s.walk ≡ None
  pub tried_is : s.tried ≡ 0

-- the numbers of the probe that made a part
abbrev pub counts_of_part : Part → Counts
counts_of_part part = counts_of part.probed.finished.entries.items part.probed.finished.endings.items

-- the numbers of a walk of so many steps and of its parts
abbrev pub counts_of_walk : ℕ → List Part → Counts
counts_of_walk steps parts = fold sum (record no_counts { steps = steps }) (map counts_of_part parts)

-- What is counted of a walk and of its parts. Nothing of it is counted as a sampled run's.
pub record IsWalkSummary (walk : Walked) (parts : List Part) (s : Summary) : Type 0 where
  pub armed_are : s.armed.items ≡ []
  pub paused_are : s.paused.items ≡ []
  pub counts_are : s.counts ≡ counts_of_walk (length walk.harts) parts
  pub sampled_are : s.sampled ≡ no_counts
  pub probes_are : s.probes ≡ length parts
  pub is_walk : is_some s.walk ≡ true
