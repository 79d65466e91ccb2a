use Rattle.std.proofs.Common.{◌≡◌, ◌∙◌, None, sym, ap, arith}
use Rattle.rv_retrace.proofs.SearchLemmas.{first_here, first_later, first_nowhere, none_gives, none_of}
use Rattle.rv_retrace.proofs.VisitLemmas.{next_here, next_there}
use Rattle.rv_retrace.specs.Going.{stop_forwards}
use Rattle.rv_retrace.proofs.forwards.first_stop.Goals as goal

pub loop-place-preserved : goal.loop-place-preserved
loop-place-preserved c =
    let p = c.args.session.now in
    let at = stop_forwards p c.args.points.now c.args.aims.now in
    let none : c.in_ok-stop.stop ≡ None = none_of c.in_ok-stop.stop (sym c.is_some.ensures ∙ c.if-is_some.false) in
    let next = none_gives c.in_ok-stop.stop none c.in_ok-stop.ensures.next in
    record {
      there = next_there p c.loop-place.visit.place c.loop-place.place _ c.loop-place.invariant.there next;
      here = next_here p c.loop-place.visit.place _ next;
      left = first_later at _ c.loop-place.place c.args.to c.in_ok-stop.stop (omega arith) c.loop-place.invariant.left (c.in_ok-stop.ensures.value ∙ ap at c.loop-place.invariant.there) none;
    }

pub returns-then-is_some-clause-value : goal.returns-then-is_some-clause-value
returns-then-is_some-clause-value c =
    let at = stop_forwards c.args.session.now c.args.points.now c.args.aims.now in
    first_here at _ c.loop-place.place c.args.to c.in_ok-stop.stop (omega arith) c.loop-place.invariant.left (c.in_ok-stop.ensures.value ∙ ap at c.loop-place.invariant.there) (sym c.is_some.ensures ∙ c.if-is_some.true)

pub returns-clause-value : goal.returns-clause-value
returns-clause-value c =
    first_nowhere (stop_forwards c.args.session.now c.args.points.now c.args.aims.now) _ c.loop-place.place c.args.to (omega arith) c.loop-place.invariant.left
