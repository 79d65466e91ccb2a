-- One more step of a hart, made alone.
use Rattle.std.proofs.Common.{ℕ, List, [], ◌∷◌, ◌++◌, refl, sym, subst}
use Rattle.rv_hart.specs.State.{State}
use Rattle.rv_stuck.specs.StuckEnd.{IsStepOf, StepsLead}
use Rattle.rv_stuck.specs.declared.stuck.RoundStep.{RoundStep}

pub lead_more : (h : ℕ) (steps : List RoundStep) (step : RoundStep) (s t u : State) → StepsLead h steps s t → IsStepOf h step t u → StepsLead h (steps ++ step ∷ []) s u
lead_more h [] step s t u lead is = (u, subst (λ (x : State). IsStepOf h step x u) (sym lead) is, refl)
lead_more h (first ∷ steps) step s t u (next, made, rest) is = (next, made, lead_more h steps step next t u rest is)
