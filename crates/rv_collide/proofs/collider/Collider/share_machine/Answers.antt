use Rattle.std.proofs.Common.{ℕ, List, length, ap, arith}
use Rattle.rv_collide.specs.Plan.{Numbers}
use Rattle.rv_collide.proofs.Collided.{printed_few}
use Rattle.rv_collide.proofs.collider.Collider.share_machine.Goals as goal

pub overflow_cast-printed : goal.overflow_cast-printed
overflow_cast-printed g c =
    let few = printed_few c.steps_of_legal_schedules.ensures.few c.args.self.now c.facts.ensures.legal c.machine.result.now.state c.machine.ensures in
    let size = ap (λ (ys : List ℕ). length ys) c.output.ensures in
    let plan = ap (λ (n : Numbers). n.steps) c.plan-plan.ensures in
    let most = c.plan-plan.result.in_range.steps in
    omega (arith, few, size, plan, most)

pub share_machine-requires-clause-limit : goal.share_machine-requires-clause-limit
share_machine-requires-clause-limit g c =
    let few = printed_few c.steps_of_legal_schedules.ensures.few c.args.self.now c.facts.ensures.legal c.machine.result.now.state c.machine.ensures in
    let size = ap (λ (ys : List ℕ). length ys) c.output.ensures in
    let plan = ap (λ (n : Numbers). n.steps) c.plan-plan.ensures in
    let most = c.plan-plan.result.in_range.steps in
    omega (arith, few, size, plan, most)
