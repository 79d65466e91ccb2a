use Rattle.std.proofs.Common.{sym, subst}
use Rattle.rv_hart.specs.State.{State}
use Rattle.rv_waits.specs.Stuck.{Runs}
use Rattle.rv_waits.specs.Turn.{MayRest}
use Rattle.rv_walk.proofs.StandsLemmas.{stands}
use Rattle.rv_walk.proofs.walk.Walk.goes.Goals as goal

pub returns-clause-runs : goal.returns-clause-runs
returns-clause-runs g c =
    λ yes s at. subst (λ (u : State). Runs u c.args.h) (stands _ _ c.self.inside.machine.state s c.self.view_is c.self.invariant.reached at) (c.goes.ensures.runs yes)

pub returns-clause-rests : goal.returns-clause-rests
returns-clause-rests g c =
    λ no s at. subst (λ (u : State). MayRest u c.args.h) (stands _ _ c.self.inside.machine.state s c.self.view_is c.self.invariant.reached at) (c.goes.ensures.rests no)
