-- the visit stands at the place, and this is the last stop of those before
use Rattle.std.proofs.Common.{◌≡◌, ◌<◌, ◌≤◌, ◌-◌}
use Rattle.std.specs.Prelude.{IfSome}
use Rattle.rv_debug.specs.Visited.{IsVisit}
use Rattle.rv_retrace.specs.Going.{last_in, stop_back}
use Rattle.rv_retrace.proofs.backwards.last_from.Given as goal

abbrev pub invariant-loop-place : goal.invariant-loop-place
invariant-loop-place l = record {
  there : l.visit.place ≡ l.place;
  here : IsVisit l.session l.visit.place l.visit;
  last : l.last ≡ last_in (stop_back l.session l.points l.aims) l.fn.visit.place (l.place - l.fn.visit.place);
  near : IfSome l.last (λ stop. (stop.hart < 16) × (stop.place ≤ l.place));
}
