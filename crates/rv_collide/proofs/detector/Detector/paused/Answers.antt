use Rattle.std.proofs.Common.{Some, sym, ap, ◌∙◌}
use Rattle.std.specs.Prelude.{◌==◌, option_map, position}
use Rattle.rv_collide.specs.Pause.{Opening, opening_of}
use Rattle.rv_collide.specs.Begun.{Begun}
use Rattle.rv_collide.specs.declared.open_pause.OpenPause.{OpenPause}
use Rattle.rv_collide.specs.internal.Core.{opening}
use Rattle.rv_collide.proofs.Growth.{opening_kept}
use Rattle.rv_collide.proofs.Taken.{found_at, found_nowhere}
use Rattle.rv_collide.proofs.detector.Detector.paused.Goals as goal

pub returns-in-None : goal.returns-in-None
returns-in-None g c =
    let none = found_nowhere c.self.inside.openings.items c.args.h (ap (position (λ (p : OpenPause). p.hart == c.args.h)) (sym c.deref.ensures.value) ∙ sym c.place_among.ensures ∙ c.in-None.is) in
    sym (ap (option_map (λ (o : Opening). o.place)) (opening_kept c.self.inside.entries.items c.self.inside.openings.items c.args.h c.self.invariant.0.openings_are ∙ ap (option_map opening) none))
    ∙ ap (λ (v : Begun). option_map (λ (o : Opening). o.place) (opening_of v.entries c.args.h)) c.self.view_is

pub returns-in-Some : goal.returns-in-Some
returns-in-Some g c =
    let found = found_at c.self.inside.openings.items c.args.h c.in-Some.place c.index.result.now (ap (position (λ (p : OpenPause). p.hart == c.args.h)) (sym c.deref.ensures.value) ∙ sym c.place_among.ensures ∙ c.in-Some.is) in
    ap (λ (p : OpenPause). Some p.place) c.index.ensures
    ∙ sym (ap (option_map (λ (o : Opening). o.place)) (opening_kept c.self.inside.entries.items c.self.inside.openings.items c.args.h c.self.invariant.0.openings_are ∙ ap (option_map opening) found))
    ∙ ap (λ (v : Begun). option_map (λ (o : Opening). o.place) (opening_of v.entries c.args.h)) c.self.view_is
