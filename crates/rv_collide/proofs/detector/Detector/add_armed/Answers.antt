use Rattle.std.proofs.Common.{inl, refl, ◌≡◌, ◌+◌, ◌*◌, ◌≤◌, ◌%◌, ℕ, true, false, cond, List, sym, ap, subst, ◌∙◌}
use Rattle.std.specs.Prelude.{count_by, nat_lt}
use Rattle.std.specs.FinSet.{FinSet, contains, insert, len}
use Rattle.std.specs.Ordering.{nat_cmp}
use Rattle.rv_break.specs.Breakpoints.{Breaks}
use Rattle.rv_break.specs.declared.claim.TheConstants.{ARMED_LIMIT}
use Rattle.rv_collide.specs.Armed.{armed, arms}
use Rattle.rv_collide.specs.Numbers.{numbers}
use Rattle.rv_collide.specs.Begun.{Begun, setting_of, begun}
use Rattle.rv_collide.specs.declared.entry.Entry.{Entry}
use Rattle.rv_collide.specs.internal.Core.{IsCore}
use Rattle.rv_collide.proofs.Calls.{arm_ok, equal, room_of}
use Rattle.rv_collide.proofs.Growth.{core_arm}
use Rattle.rv_collide.proofs.detector.Detector.add_armed.Goals as goal

pub invariant_of-self-2 : goal.invariant_of-self-2
invariant_of-self-2 g c =
    let s = setting_of (begun c.self.inside.begin.value.state (numbers c.self.inside.plan) c.self.inside.entries.items) in
    let left = subst (λ (v : Begun). nat_lt (count_by arms v.entries) v.plan.arms ≡ true) (sym c.self.view_is) c.requires.left in
    let absent = subst (λ (v : Begun). contains (armed (setting_of v).start v.entries) c.args.pc ≡ false) (sym c.self.view_is) c.requires.absent in
    let room : nat_lt (len c.self.inside.breaks.armed) ARMED_LIMIT ≡ true = room_of (contains c.self.inside.breaks.armed c.args.pc) (nat_lt (len c.self.inside.breaks.armed) ARMED_LIMIT) (sym c.if-not-arm.false ∙ c.arm.ensures.armed) in (
      subst (λ (ys : List Entry). IsCore s ys c.self.inside.machine c.arm.new.self c.self.inside.openings.items c.self.inside.endings.items c.self.inside.steps (c.self.inside.arms + 1)) (sym c.push_reserved.ensures.items)
          (core_arm s c.self.inside.entries.items c.self.inside.machine c.self.inside.breaks c.arm.new.self c.self.inside.openings.items c.self.inside.endings.items c.self.inside.steps c.self.inside.arms c.args.pc c.self.invariant.0
          (arm_ok s c.self.inside.entries.items c.args.pc left (equal (c.args.pc % 4) c.requires.aligned) absent (ap (λ (t : FinSet nat_cmp). nat_lt (len t) ARMED_LIMIT) (sym c.self.invariant.0.armed_are) ∙ room))
          (ap (λ (b : Breaks). b.armed) c.arm.ensures.after ∙ ap (λ r. cond r (insert c.self.inside.breaks.armed c.args.pc) c.self.inside.breaks.armed) c.if-not-arm.false)
          (ap (λ (b : Breaks). b.slots) c.arm.ensures.after)),
      record {
        for_entries = subst (λ (n : ℕ). s.plan.steps + 4 * s.plan.arms ≤ n) (sym c.push_reserved.ensures.capacity) c.self.invariant.1.for_entries;
        for_openings = c.self.invariant.1.for_openings;
        for_endings = c.self.invariant.1.for_endings;
      },
      inl refl,
      c.self.invariant.3,
    )
