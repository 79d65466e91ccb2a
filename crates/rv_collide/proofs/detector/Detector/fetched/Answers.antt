use Rattle.std.proofs.Common.{subst}
use Rattle.std.specs.Prelude.{IfSome}
use Rattle.rv_collide.specs.Detected.{IsWord}
use Rattle.rv_collide.specs.Numbers.{numbers}
use Rattle.rv_collide.specs.Begun.{Begun, begun}
use Rattle.rv_collide.proofs.QuickTurns.{word_found}
use Rattle.rv_collide.proofs.detector.Detector.fetched.Goals as goal

pub returns : goal.returns
returns g c =
    let was = begun c.self.inside.begin.value.state (numbers c.self.inside.plan) c.self.inside.entries.items in
    subst (λ (v : Begun). IfSome c.fetched.result (IsWord v c.args.h)) c.self.view_is (word_found was c.self.inside.machine.state c.args.h c.fetched.result c.self.invariant.0.now c.fetched.ensures)
