use Rattle.std.proofs.Common.{◌≡◌, ◌≤◌, ◌-◌, false}
use Rattle.std.specs.Prelude.{is_some}
use Rattle.std.specs.List.{list_any, range_with_len}
use Rattle.rv_collide.specs.Entries.{stepped_at}
use Rattle.rv_search.proofs.summary.has_step_within.Given as goal

abbrev pub invariant-loop-place : goal.invariant-loop-place
invariant-loop-place l = record {
  from : l.first ≤ l.place;
  none : list_any (λ place. is_some (stepped_at l.entries place)) (range_with_len l.first (l.place - l.first)) ≡ false;
}
