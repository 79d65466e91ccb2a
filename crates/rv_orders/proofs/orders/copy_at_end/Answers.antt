use Rattle.std.proofs.Common.{◌≡◌, [], ap, subst, sym, ◌∙◌}
use Rattle.rv_hart.specs.State.{Guest, State}
use Rattle.rv_orders.proofs.EndLemmas.{gone_far, led}
use Rattle.rv_orders.specs.Trial.{AreEnds}
use Rattle.rv_orders.specs.internal.Gone.{Gone}
use Rattle.rv_orders.proofs.orders.copy_at_end.Goals as goal

pub returns-clause-tried : goal.returns-clause-tried
returns-clause-tried g c =
    let s = c.args.machine.now.state in
    let same : c.ends_of.new.machine.state ≡ c.finish-left.result.machine.state = ap (λ (m : Guest). m.state) c.in_ok-ends.ensures.same in
    let begun : c.in_ok-runner.runner ≡ record { start = s; harts = []; state = s; most = c.args.most } =
    c.in_ok-runner.ensures ∙ ap (λ (m : Guest). let run : Gone = record { start = m.state; harts = []; state = m.state; most = c.args.most } in run) c.in_ok-copy.ensures.equal in
    let ends : AreEnds c.in_ok-ends.ends.is_over c.ends_of.new.machine.state c.in_ok-ends.ends.ends.items = subst (λ (t : State). AreEnds c.in_ok-ends.ends.is_over t c.in_ok-ends.ends.ends.items) (sym same) c.in_ok-ends.ensures.ends in
    led s c.args.most c.args.number c.in_ok-runner.runner c.step.new.self c.step-2.new.self c.go.new.self c.args.one c.args.other _ c.ends_of.new.machine.state begun c.in_ok-step.ensures c.in_ok-step-2.ensures c.in_ok-rests.ensures.driven c.finish-left.ensures.leads c.finish-left.ensures.harts (same ∙ c.finish-left.ensures.state) ends

pub returns-clause-far : goal.returns-clause-far
returns-clause-far g c =
    let s = c.args.machine.now.state in
    let begun : c.in_ok-runner.runner ≡ record { start = s; harts = []; state = s; most = c.args.most } =
    c.in_ok-runner.ensures ∙ ap (λ (m : Guest). let run : Gone = record { start = m.state; harts = []; state = m.state; most = c.args.most } in run) c.in_ok-copy.ensures.equal in
    gone_far s c.args.most c.args.number c.in_ok-runner.runner c.step.new.self c.step-2.new.self c.go.new.self c.args.one c.args.other _ begun c.in_ok-step.ensures c.in_ok-step-2.ensures c.in_ok-rests.ensures.driven c.in_ok-rests.rests c.in_ok-rests.ensures.far c.finish-left.ensures.few c.finish-left.ensures.leads c.finish-left.ensures.harts
