-- the visit stands at the place, and the first stop is none of those before
use Rattle.std.proofs.Common.{◌≡◌, ◌-◌}
use Rattle.rv_debug.specs.Visited.{IsVisit}
use Rattle.rv_gdb.specs.Search.{first_in}
use Rattle.rv_retrace.specs.Going.{first_stop, stop_forwards}
use Rattle.rv_retrace.proofs.forwards.first_stop.Given as goal

abbrev pub invariant-loop-place : goal.invariant-loop-place
invariant-loop-place l = record {
  there : l.visit.place ≡ l.place;
  here : IsVisit l.session l.visit.place l.visit;
  left : first_stop l.session l.points l.aims l.fn.visit.place l.to ≡ first_in (stop_forwards l.session l.points l.aims) l.place (l.to - l.place);
}
