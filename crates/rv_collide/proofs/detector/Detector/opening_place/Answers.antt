use Rattle.std.proofs.Common.{ap, ◌∙◌}
use Rattle.std.specs.Prelude.{◌==◌, position}
use Rattle.rv_collide.specs.Pause.{Opening, openings}
use Rattle.rv_collide.specs.Begun.{Begun}
use Rattle.rv_collide.specs.declared.open_pause.OpenPause.{OpenPause}
use Rattle.rv_collide.proofs.Taken.{place_kept}
use Rattle.rv_collide.proofs.detector.Detector.opening_place.Goals as goal

pub returns : goal.returns
returns g c =
    c.place_among.ensures
    ∙ ap (position (λ (p : OpenPause). p.hart == c.args.h)) c.deref.ensures.value
    ∙ place_kept c.self.inside.entries.items c.self.inside.openings.items c.args.h c.self.invariant.0.openings_are
    ∙ ap (λ (v : Begun). position (λ (o : Opening). o.hart == c.args.h) (openings v.entries)) c.self.view_is
