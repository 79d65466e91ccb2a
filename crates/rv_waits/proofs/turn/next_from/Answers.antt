use Rattle.std.proofs.Common.{◌≡◌, ◌≤◌, length, inl, inr, arith}
use Rattle.std.proofs.lemmas.Bool.{cases_lt}
use Rattle.rv_waits.proofs.TurnLemmas.{all_rest, next_is, one_rests}
use Rattle.rv_waits.proofs.turn.next_from.Goals as goal

pub returns-then-goes-clause-next : goal.returns-then-goes-clause-next
returns-then-goes-clause-next g c =
    let count : c.from-harts.result ≡ length c.args.machine.now.state.harts = omega arith in
    next_is c.args.machine.now.state c.args.from c.loop-passed.passed c.from-harts.result count c.loop-passed-test.true (c.goes.ensures.runs c.if-goes.true) c.loop-passed.invariant

pub loop-passed-preserved : goal.loop-passed-preserved
loop-passed-preserved g c =
    λ k below.
    let count : c.from-harts.result ≡ length c.args.machine.now.state.harts = omega arith in
    elim (cases_lt k c.loop-passed.passed) [
      | inl less ↦ c.loop-passed.invariant k less
      | inr le ↦ one_rests c.args.machine.now.state c.args.from c.loop-passed.passed k c.from-harts.result count (omega arith) (c.goes.ensures.rests c.if-goes.false)
    ]

pub returns-clause-none : goal.returns-clause-none
returns-clause-none g c =
    let count : c.from-harts.result ≡ length c.args.machine.now.state.harts = omega arith in
    let past : c.from-harts.result ≤ c.loop-passed.passed = c.loop-passed-test.false in
    all_rest c.args.machine.now.state c.args.from (λ k below. c.loop-passed.invariant k (omega arith))
