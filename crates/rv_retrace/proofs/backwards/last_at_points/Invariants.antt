-- the last stop is that before the end of what is still to be looked at
use Rattle.std.proofs.Common.{◌≡◌, ◌≤◌, ◌-◌}
use Rattle.rv_retrace.specs.Going.{last_in, last_stop, stop_back}
use Rattle.rv_retrace.proofs.backwards.last_at_points.Given as goal

abbrev pub invariant-loop-end : goal.invariant-loop-end
invariant-loop-end l = record {
  same : l.session ≡ l.fn.session;
  from : l.from ≤ l.end;
  to : l.end ≤ l.to;
  left : last_stop l.fn.session l.points l.aims l.from l.to ≡ last_in (stop_back l.fn.session l.points l.aims) l.from (l.end - l.from);
}

abbrev pub decreases-loop-end : goal.decreases-loop-end
decreases-loop-end l = l.end - l.from
