use Rattle.std.proofs.Common.{◌≡◌, ◌∙◌, ◌-◌, [], None, sym, arith}
use Rattle.rv_retrace.proofs.SearchLemmas.{none_of, stretch_here, stretch_passed}
use Rattle.rv_retrace.proofs.StepLemmas.{of_one}
use Rattle.rv_retrace.specs.Going.{stop_back}
use Rattle.rv_retrace.proofs.backwards.last_step.Goals as goal

pub loop-end-preserved : goal.loop-end-preserved
loop-end-preserved c =
    let at = stop_back c.args.session.now [] c.args.aims.now in
    let end = c.loop-end.end in
    let start = end - 1 in
    let none : c.step_at-stop.result ≡ None = none_of c.step_at-stop.result (sym c.is_some.ensures ∙ c.if-is_some.false) in
    let here = c.step_at-stop.ensures.value ∙ sym (of_one at start end (omega arith)) in
    record {
      from = omega arith;
      to = omega arith;
      left = stretch_passed at _ c.args.from start end c.step_at-stop.result (omega arith) (omega arith) c.loop-end.invariant.left here none;
    }

pub returns-then-is_some-clause-value : goal.returns-then-is_some-clause-value
returns-then-is_some-clause-value c =
    let at = stop_back c.args.session.now [] c.args.aims.now in
    let end = c.loop-end.end in
    let start = end - 1 in
    let here = c.step_at-stop.ensures.value ∙ sym (of_one at start end (omega arith)) in
    stretch_here at _ c.args.from start end c.step_at-stop.result (omega arith) (omega arith) c.loop-end.invariant.left here (sym c.is_some.ensures ∙ c.if-is_some.true)
