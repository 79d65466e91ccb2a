use Rattle.std.proofs.Common.{◌≡◌, [], subst, sym, ◌∙◌}
use Rattle.rv_collide.specs.Pause.{openings}
use Rattle.rv_collide.specs.Begun.{Begun}
use Rattle.rv_collide.proofs.GoesOn.{none_open}
use Rattle.rv_collide.proofs.detector.Detector.is_unwatched.Goals as goal

pub returns-else-is_free : goal.returns-else-is_free
returns-else-is_free g c = λ empty.
    subst (λ (v : Begun). openings v.entries ≡ []) c.self.view_is
    (none_open c.self.inside.entries.items c.self.inside.openings.items _ c.self.invariant.0.openings_are c.self.inside.openings.ok.0 (sym c.is_empty.ensures ∙ empty))
