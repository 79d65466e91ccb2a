use Rattle.std.proofs.Common.{◌≤◌, ℕ, length, sym, subst}
use Rattle.rv_debug.proofs.CheckpointLemmas.{printed}
use Rattle.rv_debug.proofs.session.Session.visit_here.Goals as goal

pub share-requires-clause-printed : goal.share-requires-clause-printed
share-requires-clause-printed c =
    let m = c.self.inside.machine in
    subst (λ (n : ℕ). length m.state.output ≤ n) (sym c.steps.ensures.value)
    (printed c.steps_of_legal_schedules.ensures.few c.self.inside.schedule c.self.inside.place m c.facts.ensures.legal c.self.invariant.within c.self.invariant.here.state)
