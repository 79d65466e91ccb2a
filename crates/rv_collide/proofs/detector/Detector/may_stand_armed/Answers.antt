use Rattle.std.proofs.Common.{◌≡◌, length, sym, ap, subst, ◌∙◌}
use Rattle.std.specs.FinSet.{FinSet, contains}
use Rattle.std.specs.Ordering.{nat_cmp}
use Rattle.rv_collide.specs.Forced.{turn_entry}
use Rattle.rv_collide.specs.Next.{plain}
use Rattle.rv_collide.specs.Numbers.{numbers}
use Rattle.rv_collide.specs.Begun.{Begun, setting_of, begun}
use Rattle.rv_collide.specs.declared.entry.Entry.TheVariants.{Stepped}
use Rattle.rv_collide.proofs.ArmedAccesses.{not_armed}
use Rattle.rv_collide.proofs.detector.Detector.may_stand_armed.Goals as goal

pub returns : goal.returns
returns g c = λ absent.
    subst (λ (v : Begun). turn_entry (setting_of v) v.entries c.args.h (plain (setting_of v).start v.entries (length v.entries) c.args.h) ≡ Stepped c.args.h) c.self.view_is
    (not_armed (begun c.self.inside.begin.value.state (numbers c.self.inside.plan) c.self.inside.entries.items) c.self.inside.machine.state c.args.h c.pc.result c.self.invariant.0.now c.pc.ensures
    (ap (λ (s : FinSet nat_cmp). contains s c.pc.result) (sym c.self.invariant.0.armed_are) ∙ c.may_be_armed.ensures.absent absent))
