use Rattle.std.proofs.Common.{ap, ◌∙◌, ◌∷◌, arith, refl}
use Rattle.rv_collide.specs.Joined.{steps_needed}
use Rattle.rv_collide.specs.declared.entry.Entry.{Entry}
use Rattle.rv_collide.specs.declared.entry.Entry.TheVariants.{Resumed, Armed, Disarmed}
use Rattle.rv_collide.proofs.JoinedPlans.{other_needed, pause_needed, step_needed}
use Rattle.rv_collide.proofs.join.needed_before.Goals as goal

pub returns-in-Stepped : goal.returns-in-Stepped
returns-in-Stepped c = λ later same.
    let more = ap (λ (e : Entry). steps_needed (e ∷ later)) c.in-Stepped.is ∙ step_needed c.in-Stepped.field-0 later in omega arith

pub returns-in-Paused : goal.returns-in-Paused
returns-in-Paused c = λ later same.
    let more = ap (λ (e : Entry). steps_needed (e ∷ later)) c.in-Paused.is ∙ pause_needed c.in-Paused.field-0 c.in-Paused.field-1 later in omega arith

pub returns-in-Resumed : goal.returns-in-Resumed
returns-in-Resumed c = λ later same.
    let more = ap (λ (e : Entry). steps_needed (e ∷ later)) c.in-Resumed.is ∙ other_needed (Resumed c.in-Resumed.field-0) later refl in omega arith

pub returns-in-Armed : goal.returns-in-Armed
returns-in-Armed c = λ later same.
    let more = ap (λ (e : Entry). steps_needed (e ∷ later)) c.in-Armed.is ∙ other_needed (Armed c.in-Armed.field-0) later refl in omega arith

pub returns-in-Disarmed : goal.returns-in-Disarmed
returns-in-Disarmed c = λ later same.
    let more = ap (λ (e : Entry). steps_needed (e ∷ later)) c.in-Disarmed.is ∙ other_needed (Disarmed c.in-Disarmed.field-0) later refl in omega arith
