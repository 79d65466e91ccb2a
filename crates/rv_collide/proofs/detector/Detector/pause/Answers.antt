use Rattle.std.proofs.Common.{Some, true, false, inl, refl, ◌≡◌, ◌+◌, ◌*◌, ◌≤◌, ℕ, List, ◌++◌, [], ◌∷◌, length, Ok, sym, ap, subst, ◌∙◌, arith}
use Rattle.std.specs.Vec.{vec_capacity}
use Rattle.rv_break.specs.Breakpoints.{Breaks}
use Rattle.rv_break.specs.Slots.{free_slot}
use Rattle.std.specs.FinSet.{FinSet, contains}
use Rattle.std.specs.Ordering.{nat_cmp}
use Rattle.std.specs.Prelude.{is_ok}
use Rattle.rv_collide.specs.Armed.{armed}
use Rattle.rv_collide.specs.Next.{plain}
use Rattle.rv_collide.specs.Numbers.{numbers}
use Rattle.rv_collide.specs.Forced.{Turn, forced, least_free}
use Rattle.rv_collide.specs.Begun.{Begun, setting_of, begun}
use Rattle.rv_collide.specs.declared.entry.Entry.{Entry}
use Rattle.rv_collide.specs.declared.entry.Entry.TheVariants.{Paused}
use Rattle.rv_collide.specs.declared.open_pause.OpenPause.{OpenPause}
use Rattle.rv_collide.specs.internal.Core.{IsCore, IsUntil}
use Rattle.rv_collide.proofs.ArmedAccesses.{plain_armed}
use Rattle.rv_collide.proofs.ArmedLemmas.{nothing_taken}
use Rattle.rv_collide.proofs.Growth.{core_pause, slots_claimed}
use Rattle.rv_collide.proofs.OpenPauses.{bytes_now, claim_made, least_is_free, size_of}
use Rattle.rv_collide.proofs.QuickTurns.{may_pause}
use Rattle.rv_collide.proofs.Rooms.{room_to_disarm, room_to_open}
use Rattle.rv_collide.proofs.detector.Detector.pause.Goals as goal

pub number_at-old-requires : goal.number_at-old-requires
number_at-old-requires g c =
    let v = begun c.self.inside.begin.value.state (numbers c.self.inside.plan) c.self.inside.entries.items in
    let in_set = ap (λ (set : FinSet nat_cmp). contains set c.args.access.pc) (sym c.self.invariant.0.armed_are) ∙ sym c.take_code.ensures.was ∙ c.if-not-take_code.false in
    let wanted = plain_armed v c.self.inside.machine.state c.args.h c.args.access c.self.invariant.0.now (subst (λ (u : Begun). plain (setting_of u).start u.entries (length u.entries) c.args.h ≡ Some c.args.access) (sym c.self.view_is) c.requires.plain) in_set in
    size_of c.reservations_and_accesses.ensures.sizes (setting_of v).start c.self.inside.entries.items (length c.self.inside.entries.items) c.args.h c.args.access wanted.is_next

pub push_reserved-requires : goal.push_reserved-requires
push_reserved-requires g c =
    let v = begun c.self.inside.begin.value.state (numbers c.self.inside.plan) c.self.inside.entries.items in
    let in_set = ap (λ (set : FinSet nat_cmp). contains set c.args.access.pc) (sym c.self.invariant.0.armed_are) ∙ sym c.take_code.ensures.was ∙ c.if-not-take_code.false in
    let wanted = plain_armed v c.self.inside.machine.state c.args.h c.args.access c.self.invariant.0.now (subst (λ (u : Begun). plain (setting_of u).start u.entries (length u.entries) c.args.h ≡ Some c.args.access) (sym c.self.view_is) c.requires.plain) in_set in
    let lt = room_to_open (setting_of v) c.self.inside.entries.items (length c.self.inside.endings.items) (vec_capacity c.self.inside.openings) c.args.access.pc c.self.inside.openings.items c.self.invariant.0.room c.self.invariant.1.for_openings wanted.is_armed c.self.invariant.0.openings_are in
    omega (arith, c.self.inside.openings.ok.0)

pub push_reserved-requires-2 : goal.push_reserved-requires-2
push_reserved-requires-2 g c =
    let v = begun c.self.inside.begin.value.state (numbers c.self.inside.plan) c.self.inside.entries.items in
    let in_set = ap (λ (set : FinSet nat_cmp). contains set c.args.access.pc) (sym c.self.invariant.0.armed_are) ∙ sym c.take_code.ensures.was ∙ c.if-not-take_code.false in
    let wanted = plain_armed v c.self.inside.machine.state c.args.h c.args.access c.self.invariant.0.now (subst (λ (u : Begun). plain (setting_of u).start u.entries (length u.entries) c.args.h ≡ Some c.args.access) (sym c.self.view_is) c.requires.plain) in_set in
    let lt = room_to_disarm (setting_of v) c.self.inside.entries.items (length c.self.inside.endings.items) (vec_capacity c.self.inside.entries) c.self.invariant.0.room c.self.invariant.1.for_entries c.args.access.pc wanted.is_armed in
    omega (arith, c.self.inside.entries.ok.0)

pub returns-clause-slot : goal.returns-clause-slot
returns-clause-slot g c =
    let v = begun c.self.inside.begin.value.state (numbers c.self.inside.plan) c.self.inside.entries.items in
    c.claim-slot.ensures.slot
    ∙ ap (λ (b : Breaks). free_slot b.slots) c.take_code.ensures.after
    ∙ ap free_slot c.self.invariant.0.slots_are
    ∙ least_is_free c.self.inside.plan.slots (setting_of v).start c.self.inside.entries.items c.self.inside.openings.items c.self.invariant.0.kept c.self.invariant.0.openings_are
    ∙ ap (λ (u : Begun). least_free u.plan.slots u.entries) c.self.view_is

pub invariant_of-self : goal.invariant_of-self
invariant_of-self g c =
    let s = setting_of (begun c.self.inside.begin.value.state (numbers c.self.inside.plan) c.self.inside.entries.items) in
    let same = nothing_taken c.self.inside.breaks c.take_code.new.self c.args.access.pc (sym c.take_code.ensures.was ∙ c.if-not-take_code.true) c.take_code.ensures.after in (
      subst (λ (b : Breaks). IsCore s c.self.inside.entries.items c.self.inside.machine b c.self.inside.openings.items c.self.inside.endings.items c.self.inside.steps c.self.inside.arms) (sym same) c.self.invariant.0,
      c.self.invariant.1,
      subst (λ (b : Breaks). IsUntil c.self.inside.plan.steps b c.self.inside.openings.items c.self.inside.until) (sym same) c.self.invariant.2,
      c.self.invariant.3,
    )

pub returns-clause-forced : goal.returns-clause-forced
returns-clause-forced g c =
    let v = begun c.self.inside.begin.value.state (numbers c.self.inside.plan) c.self.inside.entries.items in
    let in_set = ap (λ (set : FinSet nat_cmp). contains set c.args.access.pc) (sym c.self.invariant.0.armed_are) ∙ sym c.take_code.ensures.was ∙ c.if-not-take_code.false in
    let wanted = plain_armed v c.self.inside.machine.state c.args.h c.args.access c.self.invariant.0.now (subst (λ (u : Begun). plain (setting_of u).start u.entries (length u.entries) c.args.h ≡ Some c.args.access) (sym c.self.view_is) c.requires.plain) in_set in
    let free =
    c.claim-slot.ensures.slot
    ∙ ap (λ (b : Breaks). free_slot b.slots) c.take_code.ensures.after
    ∙ ap free_slot c.self.invariant.0.slots_are
    ∙ least_is_free c.self.inside.plan.slots (setting_of v).start c.self.inside.entries.items c.self.inside.openings.items c.self.invariant.0.kept c.self.invariant.0.openings_are in
    subst (λ (u : Begun). forced (setting_of u) u.entries (Turn c.args.h) ≡ Ok (Paused c.args.h c.claim-slot.result)) c.self.view_is
    (may_pause v c.args.h c.args.access (subst (λ (u : Begun). is_ok (forced (setting_of u) u.entries (Turn c.args.h)) ≡ true) (sym c.self.view_is) c.requires.accepted) wanted ∙ ap (λ slot. Ok (Paused c.args.h slot)) (sym free))

pub returns-then-not-take_code-clause-unarmed : goal.returns-then-not-take_code-clause-unarmed
returns-then-not-take_code-clause-unarmed g c =
    let none = ap (λ (set : FinSet nat_cmp). contains set c.args.access.pc) (sym c.self.invariant.0.armed_are) ∙ sym c.take_code.ensures.was ∙ c.if-not-take_code.true in
    subst (λ (u : Begun). contains (armed (setting_of u).start u.entries) c.args.access.pc ≡ false) c.self.view_is none

pub invariant_of-self-2 : goal.invariant_of-self-2
invariant_of-self-2 g c =
    let v = begun c.self.inside.begin.value.state (numbers c.self.inside.plan) c.self.inside.entries.items in
    let s = setting_of v in
    let in_set = ap (λ (set : FinSet nat_cmp). contains set c.args.access.pc) (sym c.self.invariant.0.armed_are) ∙ sym c.take_code.ensures.was ∙ c.if-not-take_code.false in
    let wanted = plain_armed v c.self.inside.machine.state c.args.h c.args.access c.self.invariant.0.now (subst (λ (u : Begun). plain (setting_of u).start u.entries (length u.entries) c.args.h ≡ Some c.args.access) (sym c.self.view_is) c.requires.plain) in_set in
    let ok = may_pause v c.args.h c.args.access (subst (λ (u : Begun). is_ok (forced (setting_of u) u.entries (Turn c.args.h)) ≡ true) (sym c.self.view_is) c.requires.accepted) wanted in
    let free : c.claim-slot.result ≡ least_free c.self.inside.plan.slots c.self.inside.entries.items =
    c.claim-slot.ensures.slot
    ∙ ap (λ (b : Breaks). free_slot b.slots) c.take_code.ensures.after
    ∙ ap free_slot c.self.invariant.0.slots_are
    ∙ least_is_free c.self.inside.plan.slots s.start c.self.inside.entries.items c.self.inside.openings.items c.self.invariant.0.kept c.self.invariant.0.openings_are in
    let size = c.len.ensures ∙ c.self.inside.entries.ok.0 in
    let made = claim_made c.claim-slot.result c.args.h c.args.access c.take_code.new.self c.claim-slot.new.self c.claim-slot.ensures.claimed c.claim-slot.ensures.none in
    let p : OpenPause = record { hart = c.args.h; place = c.len.result; slot = c.claim-slot.result; access = c.args.access; old = c.number_at-old.result } in
    let core = core_pause s c.self.inside.entries.items c.self.inside.machine c.self.inside.breaks c.claim-slot.new.self c.self.inside.openings.items c.self.inside.endings.items c.self.inside.steps c.self.inside.arms c.args.h p c.self.invariant.0
    (ok ∙ ap (λ k. Ok (Paused c.args.h k)) (sym free)) (sym free) refl size wanted.is_next wanted.is_armed
    (c.number_at-old.ensures ∙ bytes_now s.start c.self.inside.machine.state c.self.inside.entries.items (length c.self.inside.entries.items) c.args.access c.self.invariant.0.now)
    (made.armed ∙ ap (λ (b : Breaks). b.armed) c.take_code.ensures.after)
    (made.slots ∙ ap (λ (b : Breaks). slots_claimed c.claim-slot.result c.args.h c.args.access b.slots) c.take_code.ensures.after) in (
      subst (λ (ys : List Entry). IsCore s ys c.self.inside.machine c.claim-slot.new.self c.push_reserved.new.self.items c.self.inside.endings.items c.self.inside.steps c.self.inside.arms) (sym c.push_reserved-2.ensures.items)
          (subst (λ (ps : List OpenPause). IsCore s (c.self.inside.entries.items ++ Paused c.args.h c.claim-slot.result ∷ []) c.self.inside.machine c.claim-slot.new.self ps c.self.inside.endings.items c.self.inside.steps c.self.inside.arms) (sym c.push_reserved.ensures.items) core),
      record {
        for_entries = subst (λ (n : ℕ). s.plan.steps + 4 * s.plan.arms ≤ n) (sym c.push_reserved-2.ensures.capacity) c.self.invariant.1.for_entries;
        for_openings = subst (λ (n : ℕ). s.plan.arms ≤ n) (sym c.push_reserved.ensures.capacity) c.self.invariant.1.for_openings;
        for_endings = c.self.invariant.1.for_endings;
      },
      inl refl,
      c.self.invariant.3,
    )
