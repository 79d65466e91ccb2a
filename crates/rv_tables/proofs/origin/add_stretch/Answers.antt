use Rattle.std.proofs.Common.{◌≡◌, ◌-◌, None, Some, true, false, length, vec_len, ap, arith, eq-eqb, ne_eqb}
use Rattle.std.specs.Prelude.{◌==◌, slice_get}
use Rattle.rv_tables.proofs.OriginLemmas.{with_longer, with_more, with_none}
use Rattle.rv_tables.proofs.origin.add_stretch.Goals.{in_default-via-in-Some+else-last-stretch, in_default-via-in_default}
use Rattle.rv_tables.proofs.origin.add_stretch.Goals as goal

pub returns-in_ok-push-in-Some : goal.returns-in_ok-push-in-Some
returns-in_ok-push-in-Some c =
    let last : slice_get c.args.stretches.now.items (length c.args.stretches.now.items - 1) ≡ Some c.in-Some.last = cc in
    let ends : (c.in-Some.last.end == c.args.stretch.first) ≡ true = eq-eqb _ _ c.if-last-stretch.true in
    let same : vec_len c.args.stretches.now ≡ length c.args.stretches.now.items = omega (arith, c.deref.ensures.len, ap length c.deref.ensures.value) in
    rw (c.in_ok-push-in-Some.ensures.items, c.pop.ensures.rest, same) (with_longer c.args.stretches.now.items c.in-Some.last c.args.stretch last ends)

pub returns-in_ok-push-in_default : goal.returns-in_ok-push-in_default
returns-in_ok-push-in_default c =
    rw c.in_ok-push-in_default.ensures.items (elim c.in_default.branch [
      | in_default-via-in-Some+else-last-stretch w ↦
          let last : slice_get c.args.stretches.now.items (length c.args.stretches.now.items - 1) ≡ Some w.in-Some.last = cc in
          let ends : (w.in-Some.last.end == c.args.stretch.first) ≡ false = ne_eqb _ _ w.if-last-stretch.false in
          with_more c.args.stretches.now.items w.in-Some.last c.args.stretch last ends
      | in_default-via-in_default w ↦
          let none : slice_get c.args.stretches.now.items (length c.args.stretches.now.items - 1) ≡ None = cc in
          with_none c.args.stretches.now.items c.args.stretch none
    ])
