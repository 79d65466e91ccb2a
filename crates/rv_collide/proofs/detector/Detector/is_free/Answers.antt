use Rattle.std.proofs.Common.{◌≡◌, [], sym, ap, subst, ◌∙◌}
use Rattle.std.specs.Prelude.{nat_lt}
use Rattle.rv_collide.specs.Numbers.{numbers}
use Rattle.rv_collide.specs.Pause.{openings}
use Rattle.rv_collide.specs.Begun.{Begun, begun}
use Rattle.rv_collide.specs.internal.GoesOn.{GoesOn}
use Rattle.rv_collide.proofs.Until.{free_unwatched, free_goes_on}
use Rattle.rv_collide.proofs.detector.Detector.is_free.Goals as goal

pub returns-clause-unwatched : goal.returns-clause-unwatched
returns-clause-unwatched g c = λ free.
    subst (λ (v : Begun). openings v.entries ≡ []) c.self.view_is
    (free_unwatched c.self.inside.plan.steps c.self.inside.until c.self.inside.steps c.self.inside.breaks c.self.inside.entries.items c.self.inside.openings.items c.self.invariant.0.openings_are c.self.invariant.2 free)

pub returns-clause-goes_on : goal.returns-clause-goes_on
returns-clause-goes_on g c = λ free h.
    subst (λ (v : Begun). GoesOn v h) c.self.view_is
    (free_goes_on (begun c.self.inside.begin.value.state (numbers c.self.inside.plan) c.self.inside.entries.items) c.self.inside.until c.self.inside.breaks c.self.inside.openings.items c.self.invariant.0.openings_are c.self.invariant.0.armed_are c.self.invariant.2 (ap (λ n. nat_lt n c.self.inside.until) (sym c.self.invariant.0.counted) ∙ free) h)
