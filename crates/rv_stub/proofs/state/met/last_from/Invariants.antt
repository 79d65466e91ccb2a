-- the visit stands at the place, and this is the last store of those before
use Rattle.std.proofs.Common.{◌≡◌, ◌-◌}
use Rattle.rv_debug.specs.Visited.{IsVisit}
use Rattle.rv_retrace.specs.Going.{last_in}
use Rattle.rv_stub.specs.Met.{store_at}
use Rattle.rv_stub.proofs.state.met.last_from.Given as goal

abbrev pub invariant-loop-place : goal.invariant-loop-place
invariant-loop-place l = record {
  there : l.visit.place ≡ l.place;
  here : IsVisit l.session l.visit.place l.visit;
  last : l.last ≡ last_in (store_at l.session l.told) l.fn.visit.place (l.place - l.fn.visit.place);
}
