use Rattle.std.proofs.Common.{◌≡◌, ◌+◌, List, [], ◌∷◌, ◌++◌, length, rules, sym, subst, ◌∙◌}
use Rattle.rv_stuck.specs.StuckEnd.{IsStepOf, StepsLead}
use Rattle.rv_stuck.specs.declared.stuck.RoundStep.{RoundStep}
use Rattle.rv_stuck.proofs.RoundStepLemmas.{lead_more}
use Rattle.rv_stuck.proofs.stuck.steps_of.Goals as goal

pub loop-made-preserved : goal.loop-made-preserved
loop-made-preserved g c =
    let s = c.args.copy.now.state in
    let t = c.loop-made.copy.state in
    let u = c.step_made.new.copy.state in
    let step = c.in_ok-step_made.field-0 in
    let before = c.loop-made.steps.items in
    let made : IsStepOf c.args.h step t u = c.in_ok-step_made.ensures.step in
    let pushed : c.push.new.self.items ≡ before ++ step ∷ [] = c.in_ok-push.ensures.items in
    let lead : StepsLead c.args.h (before ++ step ∷ []) s u = lead_more c.args.h before step s t u c.loop-made.invariant.0 made in
    let count : length c.push.new.self.items ≡ c.loop-made._made + 1 = search rules in
    (subst (λ (l : List RoundStep). StepsLead c.args.h l s u) (sym pushed) lead, count, c.in_ok-step_made.ensures.harts ∙ c.loop-made.invariant.2)
