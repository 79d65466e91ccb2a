use Rattle.std.proofs.Common.{length, subst, ◌∙◌}
use Rattle.rv_collide.specs.Answers.{Turns}
use Rattle.rv_collide.specs.Stored.{setting_of}
use Rattle.rv_collide.specs.declared.collider.Turned.{Turned}
use Rattle.rv_collide.proofs.ToldLemmas.{next_event}
use Rattle.rv_collide.proofs.told.step.Goals as goal

pub returns-clause-access : goal.returns-clause-access
returns-clause-access c =
    let told : Turns c.args.collider.now c.turn.new.self c.args.h c.in-Ok-Stepped.field-0 = c.in-Ok-Stepped.ensures.ok in
    let turns = subst (λ (t : Turned). Turns c.args.collider.now c.turn.new.self c.args.h t) c.in-Ok-Stepped.field-0-is told in
    let event = turns.1 in
    c.accessed.ensures ∙ next_event (setting_of c.args.collider.now).start c.args.collider.now.entries (length c.args.collider.now.entries) c.args.h event.state event.after c.in-Ok-Stepped.event event.reached event.step
