use Rattle.rv_walk.proofs.StandsLemmas.{polled_seen, stands}
use Rattle.rv_walk.proofs.walk.Walk.round.Goals as goal

pub returns-then-runs : goal.returns-then-runs
returns-then-runs g c =
    polled_seen c.self.inside.machine.state c.args.self.now c.args.h c.round.result c.round.ensures.round c.round.ensures.polls
    (λ s at. stands _ _ c.self.inside.machine.state s c.self.view_is c.self.invariant.reached at)
