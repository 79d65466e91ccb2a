use Rattle.std.proofs.Common.{ℕ, ◌+◌, refl, sym, subst, arith}
use Rattle.rv_locked.proofs.OwnLemmas.{AgreesFrom, agrees_at_end, agrees_at_first, agrees_at_other, agrees_at_own, another_there, too_short}
use Rattle.rv_locked.proofs.own.are_places.Goals as goal
use Rattle.rv_locked.proofs.own.are_places.Goals.{then-is_of+else-met-list+else-list-met, else-is_of, then-met-list-via-then-met-list, then-met-list-via-else-met-list+then-list-met}

pub loop-place-init : goal.loop-place-init
loop-place-init c = record {
  met = omega arith;
  same = agrees_at_first c.args.list.now c.args.collider.now.entries c.args.h c.entries-place-end.result c.entries-place-end.ensures;
}

pub loop-place-preserved : goal.loop-place-preserved
loop-place-preserved c =
    elim c.if-is_of.branch [
      | then-is_of+else-met-list+else-list-met w ↦ (let below = w.if-met-list.false in let is = w.met-is in record {
        met = omega arith;
        same = subst (λ (n : ℕ). AgreesFrom c.args.list.now c.args.collider.now.entries c.args.h n (c.loop-place.place + 1) c.entries-place-end.result) (sym is)
            (agrees_at_own c.args.list.now c.args.collider.now.entries c.args.h c.loop-place.met c.loop-place.place c.entries-place-end.result c.entry.result c.is_of.result c.loop-place.invariant.same c.loop-place-test.true c.entry.ensures c.is_of.ensures w.if-is_of.true (omega arith) w.if-list-met.false);
      })
      | else-is_of w ↦ (let is = w.met-is in let before = c.loop-place.invariant.met in record {
        met = omega arith;
        same = subst (λ (n : ℕ). AgreesFrom c.args.list.now c.args.collider.now.entries c.args.h n (c.loop-place.place + 1) c.entries-place-end.result) (sym is)
            (agrees_at_other c.args.list.now c.args.collider.now.entries c.args.h c.loop-place.met c.loop-place.place c.entries-place-end.result c.entry.result c.is_of.result c.loop-place.invariant.same c.loop-place-test.true c.entry.ensures c.is_of.ensures w.if-is_of.false);
      })
    ]

pub returns-then-met-list : goal.returns-then-met-list
returns-then-met-list c =
    elim c.then-met-list.branch [
      | then-met-list-via-then-met-list w ↦
          too_short c.args.list.now c.args.collider.now.entries c.args.h c.loop-place.met c.loop-place.place c.entries-place-end.result c.entry.result c.is_of.result c.loop-place.invariant.same c.loop-place-test.true c.entry.ensures c.is_of.ensures c.if-is_of.true w.if-met-list.true
      | then-met-list-via-else-met-list+then-list-met w ↦ (let below = w.if-met-list.false in
          another_there c.args.list.now c.args.collider.now.entries c.args.h c.loop-place.met c.loop-place.place c.entries-place-end.result c.entry.result c.is_of.result c.loop-place.invariant.same c.loop-place-test.true c.entry.ensures c.is_of.ensures c.if-is_of.true (omega arith) w.if-list-met.true)
    ]

pub returns : goal.returns
returns c =
    agrees_at_end c.args.list.now c.args.collider.now.entries c.args.h c.loop-place.met c.loop-place.place c.entries-place-end.result _ c.loop-place.invariant.same c.loop-place-test.false c.loop-place.invariant.met refl
