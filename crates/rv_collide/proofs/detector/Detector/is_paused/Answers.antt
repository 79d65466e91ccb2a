use Rattle.std.proofs.Common.{◌≡◌, Option, Some, None, refl, sym, ap, ◌∙◌}
use Rattle.std.specs.Prelude.{◌==◌, find, is_some, option_map}
use Rattle.std.specs.List.{list_any}
use Rattle.rv_collide.specs.Pause.{opening_of}
use Rattle.rv_collide.specs.Begun.{Begun}
use Rattle.rv_collide.specs.declared.open_pause.OpenPause.{OpenPause}
use Rattle.rv_collide.specs.internal.Core.{opening}
use Rattle.rv_collide.proofs.Growth.{opening_kept}
use Rattle.rv_collide.proofs.Lists.{any_is_some}
use Rattle.rv_collide.proofs.detector.Detector.is_paused.Goals as goal

some_map : (o : Option OpenPause) → is_some o ≡ is_some (option_map opening o)
some_map None = refl
some_map (Some p) = refl

pub returns : goal.returns
returns g c =
    c.is_one_of.ensures
    ∙ ap (list_any (λ (p : OpenPause). p.hart == c.args.h)) c.deref.ensures.value
    ∙ any_is_some (λ (p : OpenPause). p.hart == c.args.h) c.self.inside.openings.items
    ∙ some_map (find (λ (p : OpenPause). p.hart == c.args.h) c.self.inside.openings.items)
    ∙ ap is_some (sym (opening_kept c.self.inside.entries.items c.self.inside.openings.items c.args.h c.self.invariant.0.openings_are))
    ∙ ap (λ (v : Begun). is_some (opening_of v.entries c.args.h)) c.self.view_is
