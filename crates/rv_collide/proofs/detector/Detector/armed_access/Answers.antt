use Rattle.std.proofs.Common.{◌≡◌, length, sym, ap, subst, ◌∙◌}
use Rattle.std.specs.Prelude.{IfSome, IfNone}
use Rattle.std.specs.FinSet.{FinSet, contains}
use Rattle.std.specs.Ordering.{nat_cmp}
use Rattle.rv_collide.specs.Detected.{IsArmedAccess}
use Rattle.rv_collide.specs.Forced.{turn_entry}
use Rattle.rv_collide.specs.Next.{plain}
use Rattle.rv_collide.specs.Numbers.{numbers}
use Rattle.rv_collide.specs.Begun.{Begun, setting_of, begun}
use Rattle.rv_collide.specs.declared.entry.Entry.TheVariants.{Stepped}
use Rattle.rv_collide.proofs.ArmedAccesses.{armed_some, armed_none, not_armed}
use Rattle.rv_collide.proofs.detector.Detector.armed_access.Goals as goal

pub returns-then-is_armed-clause-some : goal.returns-then-is_armed-clause-some
returns-then-is_armed-clause-some g c =
    subst (λ (v : Begun). IfSome c.next_plain.result (λ access. IsArmedAccess v c.args.h access)) c.self.view_is
    (armed_some (begun c.self.inside.begin.value.state (numbers c.self.inside.plan) c.self.inside.entries.items) c.self.inside.machine.state c.args.h c.pc.result c.self.invariant.0.now c.pc.ensures c.next_plain.result
    (ap (λ (s : FinSet nat_cmp). contains s c.pc.result) (sym c.self.invariant.0.armed_are) ∙ sym c.is_armed.ensures ∙ c.if-is_armed.true) c.next_plain.ensures)

pub returns-then-is_armed-clause-none : goal.returns-then-is_armed-clause-none
returns-then-is_armed-clause-none g c =
    subst (λ (v : Begun). IfNone c.next_plain.result (turn_entry (setting_of v) v.entries c.args.h (plain (setting_of v).start v.entries (length v.entries) c.args.h) ≡ Stepped c.args.h)) c.self.view_is
    (armed_none (begun c.self.inside.begin.value.state (numbers c.self.inside.plan) c.self.inside.entries.items) c.self.inside.machine.state c.args.h c.pc.result c.self.invariant.0.now c.pc.ensures c.next_plain.result c.next_plain.ensures)

pub returns-else-is_armed-clause-none : goal.returns-else-is_armed-clause-none
returns-else-is_armed-clause-none g c =
    subst (λ (v : Begun). turn_entry (setting_of v) v.entries c.args.h (plain (setting_of v).start v.entries (length v.entries) c.args.h) ≡ Stepped c.args.h) c.self.view_is
    (not_armed (begun c.self.inside.begin.value.state (numbers c.self.inside.plan) c.self.inside.entries.items) c.self.inside.machine.state c.args.h c.pc.result c.self.invariant.0.now c.pc.ensures
    (ap (λ (s : FinSet nat_cmp). contains s c.pc.result) (sym c.self.invariant.0.armed_are) ∙ sym c.is_armed.ensures ∙ c.if-is_armed.false))
