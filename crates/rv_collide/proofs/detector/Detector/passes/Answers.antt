use Rattle.std.proofs.Common.{◌≡◌, true, subst, sym, ap, ◌∙◌}
use Rattle.std.specs.Prelude.{◌==◌}
use Rattle.std.specs.FinSet.{FinSet, len}
use Rattle.std.specs.Ordering.{nat_cmp}
use Rattle.rv_collide.specs.Armed.{armed}
use Rattle.rv_collide.specs.Begun.{Begun, setting_of}
use Rattle.rv_collide.proofs.GoesOn.{unarmed}
use Rattle.rv_collide.proofs.detector.Detector.passes.Goals as goal

pub returns-then-is_unarmed : goal.returns-then-is_unarmed
returns-then-is_unarmed g c =
    λ _. unarmed c.args.self.now c.args.h
    (subst (λ (v : Begun). (len (armed (setting_of v).start v.entries) == 0) ≡ true) c.self.view_is
    (ap (λ (s : FinSet nat_cmp). len s == 0) (sym c.self.invariant.0.armed_are) ∙ sym c.is_unarmed.ensures ∙ c.if-is_unarmed.true))
