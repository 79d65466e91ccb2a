use Rattle.std.proofs.Common.{◌≤◌, arith}
use Rattle.rv_debug.specs.Placed.{placed}
use Rattle.rv_debug.proofs.FindLemmas.{first_touch, none_at_all, none_more}
use Rattle.rv_debug.proofs.finding.next_touch.Goals as goal

pub loop-place-preserved : goal.loop-place-preserved
loop-place-preserved c = record {
  here = c.in_ok-access.ensures.after;
  none = none_more (placed c.args.schedule.now.image c.args.schedule.now.plan c.args.schedule.now.entries c.args.from) c.args.address c.loop-place.place c.in_ok-access.access c.touches.result
      c.in_ok-access.ensures.access c.touches.ensures c.loop-place.invariant.none c.if-touches.false;
}

pub returns-then-touches-clause-found : goal.returns-then-touches-clause-found
returns-then-touches-clause-found c =
    let from : c.args.from ≤ c.loop-place.place = omega arith in
    first_touch (placed c.args.schedule.now.image c.args.schedule.now.plan c.args.schedule.now.entries c.args.from) c.args.address c.loop-place.place c.in_ok-access.access c.touches.result
    c.in_ok-access.ensures.access c.touches.ensures c.loop-place.invariant.none from c.if-touches.true

pub returns-clause-none : goal.returns-clause-none
returns-clause-none c is =
    none_at_all (placed c.args.schedule.now.image c.args.schedule.now.plan c.args.schedule.now.entries c.args.from) c.args.address c.count-place-end.result c.count-place-end.ensures (λ k from lt. c.loop-place.invariant.none k from (omega arith))
