use Rattle.std.proofs.Common.{◌≡◌, ◌<◌, ◌≤◌, true, false, length, inl, inr, sym, ap, subst, ◌∙◌, arith}
use Rattle.std.specs.Prelude.{slice_get}
use Rattle.std.proofs.lemmas.Bool.{cases_lt}
use Rattle.rv_hart.specs.Refusals.{is_running_hart}
use Rattle.rv_hart.specs.State.{State}
use Rattle.rv_waits.specs.Stuck.{Runs}
use Rattle.rv_walk.proofs.StandsLemmas.{one_state, runs_within}
use Rattle.rv_walk.proofs.course.at_rest.Goals as goal

pub returns-then-runs : goal.returns-then-runs
returns-then-runs g c =
    let state = c.machine-machine.result.now.state in
    λ s at.
    let same : c.machine-machine.result.now.state ≡ s = one_state c.args.walk.now state s c.machine-machine.ensures at in
    record {
      some = (c.loop-h.h, subst (λ (u : State). Runs u c.loop-h.h) same (sym c.runs.ensures ∙ c.if-runs.true));
      each = c.requires s at;
    }

pub loop-h-preserved : goal.loop-h-preserved
loop-h-preserved g c =
    let state = c.machine-machine.result.now.state in
    λ s at k below runs.
    let same : c.machine-machine.result.now.state ≡ s = one_state c.args.walk.now state s c.machine-machine.ensures at in
    elim (cases_lt k c.loop-h.h) [
      | inl less ↦ c.loop-h.invariant s at k less runs
      | inr le ↦
          let e : k ≡ c.loop-h.h = omega arith in
          let here : Runs s c.loop-h.h = subst (Runs s) e runs in
          let still : is_running_hart (slice_get c.machine-machine.result.now.state.harts c.loop-h.h) ≡ true = subst (λ (u : State). Runs u c.loop-h.h) (sym same) here in
          let f : false ≡ true = sym c.if-runs.false ∙ c.runs.ensures ∙ still in
          cc
    ]

pub returns : goal.returns
returns g c =
    let state = c.machine-machine.result.now.state in
    λ s at h runs.
    let same : c.machine-machine.result.now.state ≡ s = one_state c.args.walk.now state s c.machine-machine.ensures at in
    let below : h < length s.harts = runs_within s.harts h runs in
    let count : length c.machine-machine.result.now.state.harts ≡ length s.harts = ap (λ (u : State). length u.harts) same in
    let past : c.harts-h-end.result ≤ c.loop-h.h = c.loop-h-test.false in
    c.loop-h.invariant s at h (omega (arith, c.harts-h-end.ensures.value)) runs
