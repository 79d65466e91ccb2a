use Rattle.std.proofs.Common.{length, subst}
use Rattle.rv_collide.specs.Begun.{begun}
use Rattle.rv_collide.specs.Detected.{AreFacts}
use Rattle.rv_collide.specs.Numbers.{numbers}
use Rattle.rv_collide.proofs.Facts.{facts_of}
use Rattle.rv_collide.proofs.detector.Detector.facts.Goals as goal

pub returns : goal.returns
returns g c =
    let v = begun c.self.inside.begin.value.state (numbers c.self.inside.plan) c.self.inside.entries.items in
    subst AreFacts c.self.view_is (facts_of c.schedules.ensures.reports v c.self.inside.machine.state c.self.invariant.0.legal c.self.invariant.0.now c.self.invariant.0.harts c.self.invariant.0.output (length c.self.inside.endings.items) c.self.invariant.0.room)
