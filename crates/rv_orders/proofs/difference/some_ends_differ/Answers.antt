use Rattle.std.proofs.Common.{◌≡◌, ◌<◌, ◌≤◌, true, false, length, inl, inr, ap, ◌∙◌, arith}
use Rattle.std.specs.Prelude.{slice_get}
use Rattle.std.proofs.lemmas.Bool.{cases_lt}
use Rattle.rv_orders.proofs.EndLemmas.{alike, get_within}
use Rattle.rv_orders.proofs.difference.some_ends_differ.Goals as goal

pub loop-h-preserved : goal.loop-h-preserved
loop-h-preserved c =
    λ k one other below of_one of_other.
    elim (cases_lt k c.loop-h.h) [
      | inl less ↦ c.loop-h.invariant k one other less of_one of_other
      | inr le ↦
          let here : c.loop-h.h ≡ k = omega arith in
          alike c.args.ones.now c.args.others.now c.loop-h.h one other _ _ c.if-ends_differ.ensures.1 (ap (slice_get c.args.ones.now) here ∙ of_one) (ap (slice_get c.args.others.now) here ∙ of_other)
    ]

pub returns : goal.returns
returns c = (
  λ e. let f : false ≡ true = e in cc,
  λ some.
      let in_one : some.hart < length c.args.ones.now = get_within c.args.ones.now some.hart some.one some.of_one in
      let in_other : some.hart < length c.args.others.now = get_within c.args.others.now some.hart some.other some.of_other in
      let past : c.min-h-end.result ≤ c.loop-h.h = c.loop-h-test.false in
      absurd (c.loop-h.invariant some.hart some.one some.other (omega (arith, c.min-h-end.ensures)) some.of_one some.of_other some.ends),
)
