use Rattle.std.proofs.Common.{◌≡◌, ◌+◌, ◌*◌, ◌≤◌, ℕ, true, List, length, sym, ap, subst, arith}
use Rattle.std.specs.FinSet.{contains}
use Rattle.std.specs.Vec.{vec_capacity}
use Rattle.rv_break.specs.Breakpoints.{Breaks}
use Rattle.rv_collide.specs.Armed.{armed}
use Rattle.rv_collide.specs.Numbers.{numbers}
use Rattle.rv_collide.specs.Begun.{Begun, setting_of, begun}
use Rattle.rv_collide.specs.declared.entry.Entry.{Entry}
use Rattle.rv_collide.specs.declared.open_pause.OpenPause.{OpenPause}
use Rattle.rv_collide.specs.internal.Core.{IsCore, IsUntil}
use Rattle.rv_collide.proofs.Calls.{disarm_ok}
use Rattle.rv_collide.proofs.Growth.{core_disarm}
use Rattle.rv_collide.proofs.Rooms.{room_to_disarm}
use Rattle.rv_collide.proofs.detector.Detector.add_disarmed.Goals as goal

pub push_reserved-requires : goal.push_reserved-requires
push_reserved-requires g c =
    let s = setting_of (begun c.self.inside.begin.value.state (numbers c.self.inside.plan) c.self.inside.entries.items) in
    let there = subst (λ (v : Begun). contains (armed (setting_of v).start v.entries) c.args.pc ≡ true) (sym c.self.view_is) c.requires in
    let lt = room_to_disarm s c.self.inside.entries.items (length c.self.inside.endings.items) (vec_capacity c.self.inside.entries) c.self.invariant.0.room c.self.invariant.1.for_entries c.args.pc there in
    omega (arith, c.self.inside.entries.ok.0)

pub invariant_of-self : goal.invariant_of-self
invariant_of-self g c =
    let s = setting_of (begun c.self.inside.begin.value.state (numbers c.self.inside.plan) c.self.inside.entries.items) in
    let there = subst (λ (v : Begun). contains (armed (setting_of v).start v.entries) c.args.pc ≡ true) (sym c.self.view_is) c.requires in (
      subst (λ (ys : List Entry). IsCore s ys c.self.inside.machine c.disarm-was_armed.new.self c.self.inside.openings.items c.self.inside.endings.items c.self.inside.steps c.self.inside.arms) (sym c.push_reserved.ensures.items)
          (core_disarm s c.self.inside.entries.items c.self.inside.machine c.self.inside.breaks c.disarm-was_armed.new.self c.self.inside.openings.items c.self.inside.endings.items c.self.inside.steps c.self.inside.arms c.args.pc c.self.invariant.0
          (disarm_ok s c.self.inside.entries.items c.args.pc there) (ap (λ (b : Breaks). b.armed) c.disarm-was_armed.ensures.after) (ap (λ (b : Breaks). b.slots) c.disarm-was_armed.ensures.after)),
      record {
        for_entries = subst (λ (n : ℕ). s.plan.steps + 4 * s.plan.arms ≤ n) (sym c.push_reserved.ensures.capacity) c.self.invariant.1.for_entries;
        for_openings = c.self.invariant.1.for_openings;
        for_endings = c.self.invariant.1.for_endings;
      },
      subst (λ (ps : List OpenPause). IsUntil c.self.inside.plan.steps c.disarm-was_armed.new.self ps c.until-self-inside.result) c.deref.ensures.value c.until-self-inside.ensures,
      c.self.invariant.3,
    )
