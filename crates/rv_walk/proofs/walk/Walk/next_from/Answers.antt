use Rattle.rv_walk.proofs.StandsLemmas.{next_there, none_there, stands}
use Rattle.rv_walk.specs.Walked.{IsAt}
use Rattle.rv_walk.proofs.walk.Walk.next_from.Goals as goal

pub returns-clause-next : goal.returns-clause-next
returns-clause-next g c =
    next_there c.next_from.result c.self.inside.machine.state c.args.from (IsAt c.args.self.now) (λ s at. stands _ _ c.self.inside.machine.state s c.self.view_is c.self.invariant.reached at) c.next_from.ensures.next

pub returns-clause-none : goal.returns-clause-none
returns-clause-none g c =
    none_there c.next_from.result c.self.inside.machine.state (IsAt c.args.self.now) (λ s at. stands _ _ c.self.inside.machine.state s c.self.view_is c.self.invariant.reached at) c.next_from.ensures.none
