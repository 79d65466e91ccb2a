use Rattle.std.proofs.Common.{ap, ◌∙◌}
use Rattle.rv_collide.specs.Numbers.{numbers}
use Rattle.rv_collide.proofs.JoinedWhole.{capped, narrowed_of}
use Rattle.rv_collide.proofs.join.narrowed.Goals as goal

pub returns-clause-plan : goal.returns-clause-plan
returns-clause-plan c = λ start legal.
    let plan = c.args.told.plan in
    narrowed_of start (numbers plan) (numbers c.plan_needed-plan.result) c.args.told.entries.items plan.in_range legal (c.plan_needed-plan.ensures ∙ ap (capped (numbers plan)) c.deref.ensures.value)
