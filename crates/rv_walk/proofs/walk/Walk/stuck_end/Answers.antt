use Rattle.rv_hart.specs.State.{State}
use Rattle.rv_walk.specs.Walked.{IsAt}
use Rattle.rv_walk.proofs.StandsLemmas.{stands, stuck_there}
use Rattle.rv_walk.proofs.walk.Walk.stuck_end.Goals as goal

pub returns-clause-stuck : goal.returns-clause-stuck
returns-clause-stuck g c =
    let state = c.self.inside.machine.state in
    stuck_there c.stuck_end.result state (IsAt c.args.self.now) (λ s at. stands _ _ state s c.self.view_is c.self.invariant.reached at) c.stuck_end.ensures.stuck
