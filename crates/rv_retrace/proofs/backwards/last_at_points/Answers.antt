use Rattle.std.proofs.Common.{◌≡◌, ◌∙◌, None, sym, ap, arith}
use Rattle.rv_retrace.proofs.SearchLemmas.{none_of, stretch_here, stretch_passed}
use Rattle.rv_retrace.specs.Going.{last_stop, stop_back}
use Rattle.rv_retrace.proofs.backwards.last_at_points.Goals as goal

pub loop-end-preserved : goal.loop-end-preserved
loop-end-preserved c =
    let at = stop_back c.args.session.now c.args.points.now c.args.aims.now in
    let start = c.stretch_before-start.result in
    let end = c.loop-end.end in
    let none : c.in_ok-stop.stop ≡ None = none_of c.in_ok-stop.stop (sym c.is_some.ensures ∙ c.if-is_some.false) in
    let here = c.in_ok-stop.ensures.value ∙ ap (λ p. last_stop p c.args.points.now c.args.aims.now start end) c.loop-end.invariant.same in
    record {
      same = c.in_ok-stop.ensures.same ∙ c.loop-end.invariant.same;
      from = omega arith;
      to = omega arith;
      left = stretch_passed at _ c.args.from start end c.in_ok-stop.stop (omega arith) (omega arith) c.loop-end.invariant.left here none;
    }

pub returns-then-is_some-clause-value : goal.returns-then-is_some-clause-value
returns-then-is_some-clause-value c =
    let at = stop_back c.args.session.now c.args.points.now c.args.aims.now in
    let start = c.stretch_before-start.result in
    let end = c.loop-end.end in
    let here = c.in_ok-stop.ensures.value ∙ ap (λ p. last_stop p c.args.points.now c.args.aims.now start end) c.loop-end.invariant.same in
    stretch_here at _ c.args.from start end c.in_ok-stop.stop (omega arith) (omega arith) c.loop-end.invariant.left here (sym c.is_some.ensures ∙ c.if-is_some.true)
