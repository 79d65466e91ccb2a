use Rattle.std.proofs.Common.{subst}
use Rattle.rv_walk.specs.Walked.{Walked, IsAt}
use Rattle.rv_walk.proofs.StandsLemmas.{at_run, runs_within}
use Rattle.rv_walk.proofs.walk.Walk.mark.Goals as goal

pub pc-requires : goal.pc-requires
pc-requires g c =
    let at : IsAt c.args.self.now c.self.inside.machine.state = subst (λ (v : Walked). IsAt v c.self.inside.machine.state) c.self.view_is (at_run _ _ c.self.invariant.reached) in
    runs_within c.self.inside.machine.state.harts c.args.h (c.requires c.self.inside.machine.state at)
